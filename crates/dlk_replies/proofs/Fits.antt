-- Words that have a form are as many as it has.
use Rattle.std.proofs.Common.{◌≡◌, ℕ, ◌+◌, ◌-◌, ◌≤◌, Bool, true, false, cond, List, [], ◌∷◌, length, map, take, drop, get_or, Some, IsTrue, find}
use Rattle.std.proofs.Common.{String, string_bytes, refl, sym, ap, ◌∙◌, arith, bytes_eq}
use Rattle.std.specs.Prelude.{◌&&◌, nat_le}
use Rattle.std.proofs.lemmas.List.{length-map, take-map, take_all, drop-drop, length-drop}
use Rattle.std.specs.List.{drop-map}
use Rattle.std.proofs.lemmas.Bool.{and_parts, leb-true, le-leb}
use Rattle.std.specs.declared.alloc.Global.{Global}
use Rattle.dlk_replies.specs.Forms.{Word, Form, form_of, ends_in, has_form, limits_of, inputs_of, others_of, command_of, commands, limit_of}
use Rattle.dlk_replies.specs.Inputs.{first_too_long}
use Rattle.dlk_replies.specs.Shown.{form_shown}
use Rattle.dlk_replies.specs.declared.command.Command.{Command}
use Rattle.dlk_replies.specs.declared.form.Form.{Form as CodeForm}

-- what is found passes
pub found_passes : {X : Type 0} (p : X → Bool) (xs : List X) (x : X) → find p xs ≡ Some x → p x ≡ true
found_passes p [] x h = absurd (cc)
found_passes p (y ∷ ys) x h = by_test (p y) refl h (found_passes p ys x)
  where
    by_test : (b : Bool) → p y ≡ b → cond b (Some y) (find p ys) ≡ Some x → (find p ys ≡ Some x → p x ≡ true) → p x ≡ true
    by_test true e h rec = let same : y ≡ x = cc in cc
    by_test false e h rec = rec h

-- the words behind the verb
record Behind (words : List (List ℕ)) (form : Form) : Type 0 where
  room : 1 + length form.inputs ≤ length words
  ends : IsTrue (ends_in form.last (drop (length form.inputs) (drop 1 words)))

behind : (words : List (List ℕ)) (form : Form) → has_form words form ≡ true → Behind words form
behind [] form h = absurd (cc)
behind (verb ∷ rest) form h =
    let parts = and_parts (bytes_eq verb form.verb) (nat_le (length form.inputs) (length rest) && ends_in form.last (drop (length form.inputs) rest)) h in
    let more = and_parts (nat_le (length form.inputs) (length rest)) (ends_in form.last (drop (length form.inputs) rest)) parts.1 in
    let enough : length form.inputs ≤ length rest = leb-true (length form.inputs) (length rest) more.0 in
    record { room = omega (arith, enough); ends = more.1 }

behind_command : (words : List (List ℕ)) (command : Command) → command_of words ≡ Some command → Behind words (form_of command)
behind_command words command h = behind words (form_of command) (found_passes (λ c. has_form words (form_of c)) commands command h)

pub long_enough : (words : List (List ℕ)) (command : Command) → command_of words ≡ Some command → 1 + length (form_of command).inputs ≤ length words
long_enough words command h = (behind_command words command h).room

-- and the words behind the inputs are those of the form
pub others_end : (words : List (List ℕ)) (command : Command) → command_of words ≡ Some command →
    IsTrue (ends_in (form_of command).last (others_of command words))
others_end words command h = (behind_command words command h).ends

-- there is room for the inputs after the verb
pub room : (words : List (String Global)) (command : Command) (n : ℕ) → n ≡ length (form_of command).inputs →
    command_of (map string_bytes words) ≡ Some command → 1 + n ≤ length words
room words command n count h = omega (arith, long_enough (map string_bytes words) command h, length-map words (string_bytes {Z = Global}))

pub others_there : (words : List (String Global)) (command : Command) (n : ℕ) → n ≡ length (form_of command).inputs →
    map string_bytes (take (length words - (1 + n)) (drop (1 + n) words)) ≡ others_of command (map string_bytes words)
others_there words command n count =
    let whole : take (length words - (1 + n)) (drop (1 + n) words) ≡ drop (1 + n) words =
    take_all (length words - (1 + n)) (drop (1 + n) words) (omega (arith, length-drop (1 + n) words)) in
    let twice : drop (1 + n) words ≡ drop n (drop 1 words) = sym (drop-drop n 1 words) in
    ap (map string_bytes) (whole ∙ twice) ∙ sym (drop-map string_bytes n (drop 1 words))
    ∙ ap (λ (ws : List (List ℕ)). drop n ws) (sym (drop-map string_bytes 1 words))
    ∙ ap (λ (m : ℕ). drop m (drop 1 (map string_bytes words))) count

-- the first input that is too long is sought among these names and roles
pub same_sought : (c : Command) (words names : List Word) (form : CodeForm) (texts : List (List ℕ)) → names ≡ inputs_of c words → form_shown form ≡ form_of c →
    first_too_long names (map limit_of form.inputs.now) texts ≡ first_too_long (inputs_of c words) (limits_of c) texts
same_sought c words names form texts is_names is_form = λ i. first_too_long (is_names i) (map limit_of (is_form i).inputs) texts

-- words whose first is the verb, by the words behind their inputs
pub verb_and_rest : (words rest : List (String Global)) (verb : String Global) (form : Form) → 1 ≤ length words → verb ≡ get_or words 0 verb →
    bytes_eq (string_bytes verb) form.verb ≡ true →
    length form.inputs ≤ length words - 1 → rest ≡ drop (length form.inputs) (drop 1 words) →
    ends_in form.last (map string_bytes rest) ≡ has_form (map string_bytes words) form
verb_and_rest [] rest verb form some first same fits is = absurd (omega arith)
verb_and_rest (w ∷ ws) rest verb form some first same fits is =
    let k = length form.inputs in
    let here : bytes_eq (string_bytes w) form.verb ≡ true = ap (λ v. bytes_eq (string_bytes v) form.verb) (sym first) ∙ same in
    let room : nat_le k (length (map string_bytes ws)) ≡ true =
    le-leb k (length (map string_bytes ws)) (omega (arith, fits, length-map ws (string_bytes {Z = Global}))) in
    ap (λ l. ends_in form.last (map string_bytes l)) is ∙ ap (ends_in form.last) (sym (drop-map string_bytes k ws)) ∙ rw (here, room) refl
