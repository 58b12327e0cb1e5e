-- The inputs that were asked for, one after another.
use Rattle.std.proofs.Common.{◌≡◌, ℕ, ◌+◌, ◌-◌, ◌<◌, List, [], ◌∷◌, ◌++◌, length, take, map, get_or, String, string_bytes, None, Some, IsSomeAnd, sym}
use Rattle.std.proofs.Common.{ap, subst, ◌∙◌, append_assoc, append-nil, refl, arith, inl, inr}
use Rattle.std.proofs.lemmas.List.{take_more, length-map, get_or-map}
use Rattle.std.specs.declared.alloc.Global.{Global}
use Rattle.dlk_calculus.specs.Places.{At}
use Rattle.dlk_calculus.proofs.PlaceLaws.{At_read, at_one}
use Rattle.dlk_desk.specs.Outside.{Outside, SameFiles}
use Rattle.dlk_transfer.specs.Transfer.{LosesAtMost, TookUpTo, NeverStarted, StartedAndTook, ReadUpTo}
use Rattle.dlk_replies.specs.Forms.{Word, limit_of}
use Rattle.dlk_replies.specs.declared.form.Role.{Role}
use Rattle.dlk.specs.Runs.{AsksFor}

-- what was read whole, or to one byte past the limit, was started and took so much
pub read_took : (tells : Type 0) (limit : ℕ) (name bytes : List ℕ) (old new : Outside) → ReadUpTo tells limit name bytes old new →
    StartedAndTook tells limit name old new
read_took tells limit name bytes old new read = record {
  asked = read.asked;
  took = λ t. subst (λ file. IsSomeAnd file (λ all. LosesAtMost (limit + 1) all new.left)) (sym (read.rest t)) (bytes, refl, read.bound);
  reading = read.reading;
}

-- the item behind the first i
at_next : {X Y : Type 0} (f : X → Y) (items : List X) (i : ℕ) (x d : X) → i < length items → x ≡ get_or items i d → At (map f items) (i + 1) (f x)
at_next f items i x d lt is =
    let place : i ≡ i + 1 - 1 = omega arith in
    At_read (map f items) (i + 1) (f x) (omega arith, omega (arith, length-map items f))
    (ap f is ∙ sym (get_or-map f items i d (f x) lt) ∙ ap (λ (n : ℕ). get_or (map f items) n (f x)) place)

module _ (tells : Type 0) (names : List (String Global)) (roles : List Role) (name : String Global) (role other_role : Role) (i : ℕ)
    (old mid new : Outside) where
  -- the first i were asked for, and then the next
  pub asked_next : i < length names → i < length roles → name ≡ get_or names i name → role ≡ get_or roles i other_role →
      AsksFor tells (map string_bytes names) (map limit_of roles) i old mid → (tells → SameFiles old.files mid.files) →
      StartedAndTook tells (limit_of role) (string_bytes name) mid new → AsksFor tells (map string_bytes names) (map limit_of roles) (i + 1) old new
  asked_next lt less name_is role_is so_far same started =
      let room : i < length (map string_bytes names) = omega (arith, length-map names (string_bytes {Z = Global})) in
      let is : string_bytes name ≡ get_or (map string_bytes names) i (string_bytes name) =
      ap string_bytes name_is ∙ sym (get_or-map string_bytes names i name (string_bytes name) lt) in
      let next : take i (map string_bytes names) ++ string_bytes name ∷ [] ≡ take (i + 1) (map string_bytes names) =
      ap (λ (w : Word). take i (map string_bytes names) ++ w ∷ []) is ∙ sym (take_more (map string_bytes names) i (string_bytes name) room) in
      record {
        within = omega (arith, room);
        asked = started.asked ∙ ap (λ (ws : List Word). ws ++ string_bytes name ∷ []) so_far.asked
            ∙ append_assoc old.asked (take i (map string_bytes names)) (string_bytes name ∷ []) ∙ ap (λ (ws : List Word). old.asked ++ ws) next;
        none = λ t z. absurd (omega (arith, z));
        last = λ t other limit a b.
            let is_name : string_bytes name ≡ other =
            at_one (map string_bytes names) (i + 1) (string_bytes name) other (at_next string_bytes names i name name lt name_is) a in
            let is_limit : limit_of role ≡ limit = at_one (map limit_of roles) (i + 1) (limit_of role) limit
            (at_next limit_of roles i role other_role less role_is) b in
            subst (λ (w : Word). IsSomeAnd (old.files w) (λ bytes. LosesAtMost (limit + 1) bytes new.left)) is_name
            (subst (λ (n : ℕ). IsSomeAnd (old.files (string_bytes name)) (λ bytes. LosesAtMost (n + 1) bytes new.left)) is_limit
            (subst (λ file. IsSomeAnd file (λ bytes. LosesAtMost (limit_of role + 1) bytes new.left)) (same t (string_bytes name)) (started.took t)));
      }

  -- nothing more was asked for
  asked_no_more : AsksFor tells (map string_bytes names) (map limit_of roles) i old mid → NeverStarted tells mid new →
      AsksFor tells (map string_bytes names) (map limit_of roles) i old new
  asked_no_more so_far never = record {
    within = so_far.within;
    asked = never.asked ∙ so_far.asked;
    none = λ t z. never.left t ∙ so_far.none t z;
    last = λ t other limit a b. subst (λ left. IsSomeAnd (old.files other) (λ bytes. LosesAtMost (limit + 1) bytes left)) (sym (never.left t))
        (so_far.last t other limit a b);
  }

  pub asked_further : i < length names → i < length roles → name ≡ get_or names i name → role ≡ get_or roles i other_role →
      AsksFor tells (map string_bytes names) (map limit_of roles) i old mid → (tells → SameFiles old.files mid.files) →
      TookUpTo tells (limit_of role) (string_bytes name) mid new → (count : ℕ) × AsksFor tells (map string_bytes names) (map limit_of roles) count old new
  asked_further lt less name_is role_is so_far same (inl never) = (i, asked_no_more so_far never)
  asked_further lt less name_is role_is so_far same (inr started) = (i + 1, asked_next lt less name_is role_is so_far same started)

-- what prints and writes asks for nothing, and takes nothing
pub asked_before : (tells : Type 0) (names : List Word) (limits : List ℕ) (count : ℕ) (old mid new : Outside) → AsksFor tells names limits count old mid →
    new.asked ≡ mid.asked → (tells → new.left ≡ mid.left) → AsksFor tells names limits count old new
asked_before tells names limits count old mid new so_far asked left = record {
  within = so_far.within;
  asked = asked ∙ so_far.asked;
  none = λ t z. left t ∙ so_far.none t z;
  last = λ t name limit a b. subst (λ l. IsSomeAnd (old.files name) (λ bytes. LosesAtMost (limit + 1) bytes l)) (sym (left t)) (so_far.last t name limit a b);
}
