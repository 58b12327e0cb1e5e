-- What rules and a merge in turn leave of a fact's row, in the place of one of its goals.
use Rattle.std.proofs.Common.{◌≡◌, ℕ, suc, ◌+◌, ◌-◌, ◌<◌, List, [], ◌∷◌, ◌++◌, length, take, drop, sym, ap, subst, ◌∙◌, arith, length-append}
use Rattle.std.proofs.Common.{append_assoc, inl, inr}
use Rattle.std.proofs.lemmas.List.{length-take-le, length-drop}
use Rattle.std.proofs.lemmas.Option.{slice_get_cases}
use Rattle.dlk_tree.specs.Trees.{Tree}
use Rattle.dlk_calculus.specs.Places.{At, IsPlace, put_all}
use Rattle.dlk_calculus.specs.Sequents.{Sequent}
use Rattle.dlk_calculus.specs.Provables.{Provable}
use Rattle.dlk_calculus.specs.Rules.{Rule, Premises, Close, Cut, CutL, CutR, CoHideR, ImplyL, ImplyR, EquivifyR, CommuteEquivR}
use Rattle.dlk_calculus.specs.Steps.{Step, Apply, Merge, Gives}
use Rattle.dlk_calculus.specs.Steps.{apply as by_apply, merge as by_merge}
use Rattle.dlk_calculus.proofs.PlaceLaws.{at_one, at_suc, At_place, split_at, At-more, At-between, put_between}
use Rattle.dlk_kernel.specs.Taken.{Takes, none, more}
use Rattle.dlk_uses.specs.Uses.{in_turn, closed_by}
use Rattle.dlk_uses.proofs.Taking.{takes_none, takes_first}

-- others within what stands in an item's place
pub put_within : {A : Type 0} (xs new ys : List A) (g k : ℕ) (x : A) → IsPlace xs g → At new (k + 1) x →
    put_all (put_all xs g new) (g + k) ys ≡ put_all xs g (put_all new (k + 1) ys)
put_within xs new ys g k x there here =
    let front = take (g - 1) xs in
    let back = drop g xs in
    let before = take (k + 1 - 1) new in
    let after = drop (k + 1) new in
    let n : length front ≡ g - 1 = length-take-le (g - 1) xs (omega (arith, there.0, there.1)) in
    let place = At_place new (k + 1) x here in
    let m : length before ≡ k + 1 - 1 = length-take-le (k + 1 - 1) new (omega (arith, place.1)) in
    let whole : put_all xs g new ≡ (front ++ before) ++ x ∷ (after ++ back) =
    ap (λ l. front ++ l ++ back) (split_at new (k + 1) x here)
    ∙ ap (λ l. l ++ back) (sym (append_assoc front before (x ∷ after)))
    ∙ append_assoc (front ++ before) (x ∷ after) back in
    let at : g + k ≡ length (front ++ before) + 1 = omega (arith, there.0, n, m, length-append front before) in
    (λ i. put_all (whole i) (at i) ys) ∙ put_between (front ++ before) (after ++ back) ys x
    ∙ sym (append_assoc (front ++ before ++ ys) after back)
    ∙ ap (λ l. l ++ after ++ back) (append_assoc front before ys)
    ∙ ap (λ l. l ++ back) (append_assoc front (before ++ ys) after)

-- as many goals more as stand in an item's place, but for the item
pub put_length : {A : Type 0} (items new : List A) (place : ℕ) → IsPlace items place → length (put_all items place new) + 1 ≡ length items + length new
put_length items new place there =
    omega (
      arith,
      there.0,
      there.1,
      length-append (take (place - 1) items ++ new) (drop place items),
      length-append (take (place - 1) items) new,
      length-take-le (place - 1) items (omega (arith, there.0, there.1)),
      length-drop place items,
    )

-- the row is the other one, but for so many goals in the place of one
pub record Behind (p : Provable) (goal n : ℕ) (q : Provable) : Type 0 where
  pub new : List Sequent
  pub count : length new ≡ n
  pub conclusion : q.conclusion ≡ p.conclusion
  pub goals : q.goals ≡ put_all p.goals goal new

an_item : {A : Type 0} (items : List A) (k n : ℕ) → length items ≡ n → k < n → (x : A) × At items (k + 1) x
an_item items k n e less =
    let one : suc k ≡ k + 1 = omega arith in
    elim (slice_get_cases items k).1 [
      | inl h ↦ (h.0, subst (λ j. At items j h.0) one (at_suc items k ∙ h.2))
      | inr h ↦ absurd (omega (arith, h.0, e, less))
    ]

-- the rule makes so many premises
abbrev pub Makes : Rule → ℕ → Type 0
Makes rule m = (s : Sequent) (premises : List Sequent) → Premises rule s premises → length premises ≡ m

pub makes_close : (i j : ℕ) → Makes (Close i j) 0
makes_close i j s premises h = ap length h.premises_are

pub makes_cut : (h : Tree) → Makes (Cut h) 2
makes_cut h s premises k = ap length k.premises_are

pub makes_cut_left : (i : ℕ) (h : Tree) → Makes (CutL i h) 2
makes_cut_left i h s premises k = ap length k.premises_are

pub makes_cut_right : (j : ℕ) (h : Tree) → Makes (CutR j h) 2
makes_cut_right j h s premises k = ap length k.premises_are

pub makes_hide : (j : ℕ) → Makes (CoHideR j) 1
makes_hide j s premises h = ap length h.premises_are

pub makes_imply_left : (i : ℕ) → Makes (ImplyL i) 2
makes_imply_left i s premises h = ap length h.premises_are

pub makes_imply_right : (j : ℕ) → Makes (ImplyR j) 1
makes_imply_right j s premises h = ap length h.premises_are

pub makes_equivify : (j : ℕ) → Makes (EquivifyR j) 1
makes_equivify j s premises h = ap length h.premises_are

pub makes_commute : (j : ℕ) → Makes (CommuteEquivR j) 1
makes_commute j s premises h = ap length h.premises_are

module _ (p : Provable) (goal : ℕ) (there : IsPlace p.goals goal) where
  pub behind_put : (n k : ℕ) (q r : Provable) (ys : List Sequent) → Behind p goal n q → k < n → r.conclusion ≡ q.conclusion →
      r.goals ≡ put_all q.goals (goal + k) ys → Behind p goal (n - 1 + length ys) r
  behind_put n k q r ys b less same goals =
      let x = an_item b.new k n b.count less in
      let place : IsPlace b.new (k + 1) = At_place b.new (k + 1) x.0 x.1 in
      record {
        new = put_all b.new (k + 1) ys;
        count = omega (arith, put_length b.new ys (k + 1) place, b.count, less);
        conclusion = same ∙ b.conclusion;
        goals = goals ∙ ap (λ l. put_all l (goal + k) ys) b.goals ∙ put_within p.goals b.new ys goal k x.0 there x.1;
      }

  pub behind_rule : (rows : List Provable) (fact n k m : ℕ) (rule : Rule) (q r : Provable) → At rows fact q → Behind p goal n q → k < n → Makes rule m →
      Gives rows (Apply fact (goal + k) rule) r → Behind p goal (n - 1 + m) r
  behind_rule rows fact n k m rule q r stands b less makes (by_apply _ _ _ row s premises at is_goal proper given) =
      let same : row ≡ q = at_one rows fact row q at stands in
      let h = behind_put n k q r premises b less (ap (λ (x : Provable). x.conclusion) same) (ap (λ (x : Provable). put_all x.goals (goal + k) premises) same) in
      subst (λ j. Behind p goal (n - 1 + j) r) (makes s premises given) h

  pub behind_merge : (rows : List Provable) (fact n k by : ℕ) (q r : Provable) → At rows fact q → Behind p goal n q → k < n →
      Gives rows (Merge fact (goal + k) by) r → (other : Provable) × At rows by other × Behind p goal (n - 1 + length other.goals) r
  behind_merge rows fact n k by q r stands b less (by_merge _ _ _ row other new at other_at is_goal are_new) =
      let same : row ≡ q = at_one rows fact row q at stands in (
        other,
        other_at,
        behind_put n k q r other.goals b less (ap (λ (x : Provable). x.conclusion) same) (ap (λ (x : Provable). put_all x.goals (goal + k) other.goals) same),
      )

  -- rules on goals that are there: from so many goals to so many
  pub data Turns : ℕ → List (ℕ × Rule) → ℕ → Type 0 where
    no_more : {n : ℕ} → Turns n [] n
    turn : {n z : ℕ} {rest : List (ℕ × Rule)} (at k m : ℕ) (rule : Rule) → at ≡ goal + k → k < n → Makes rule m → Turns (n - 1 + m) rest z →
        Turns n ((at, rule) ∷ rest) z

  -- the last row is the fact's, but for goals in the goal's place
  pub record Ends (after : List Provable) : Type 0 where
    pub last : Provable
    pub is_last : At after (length after) last
    pub n : ℕ
    pub behind : Behind p goal n last

  pub last_at : (rows : List Provable) (r : Provable) → At (rows ++ r ∷ []) (length (rows ++ r ∷ [])) r
  last_at rows r = let e : length rows + 1 ≡ length (rows ++ r ∷ []) = sym (length-append rows (r ∷ [])) in
      subst (λ k. At (rows ++ r ∷ []) k r) e (At-between rows r [])

  -- the merge that ends them
  merged_last : (rows after : List Provable) (fact n k by at : ℕ) (q : Provable) → At rows fact q → Behind p goal n q → k < n → at ≡ goal + k →
      Takes rows (Merge fact at by ∷ []) after → Ends after
  merged_last rows after fact n k by at q stands b less e taken =
      let f = takes_first rows after (Merge fact at by) [] taken in
      let ends : after ≡ rows ++ f.row ∷ [] = takes_none (rows ++ f.row ∷ []) after f.others in
      let h = behind_merge rows fact n k by q f.row stands b less (subst (λ j. Gives rows (Merge fact j by) f.row) e f.is_its.given) in
      record { last = f.row; is_last = subst (λ l. At l (length l) f.row) (sym ends) (last_at rows f.row); n = n - 1 + length h.0.goals; behind = h.2 }

  -- rules in turn and a merge, on the last row
  turned : (rules : List (ℕ × Rule)) (rows after : List Provable) (count n z k by at : ℕ) (q : Provable) → count ≡ length rows → At rows count q →
      Behind p goal n q → Turns n rules z → k < z → at ≡ goal + k → Takes rows (in_turn count count rules ++ Merge (count + length rules) at by ∷ []) after →
      Ends after
  turned _ rows after count n _ k by at q counted stands b no_more less e taken =
      let zero_more : count + length {A = ℕ × Rule} [] ≡ count = omega arith in
      merged_last rows after count n k by at q stands b less e (subst (λ j. Takes rows (Merge j at by ∷ []) after) zero_more taken)
  turned _ rows after count n z k by at q counted stands b (turn {rest = rest} on j m rule is low makes others) less e taken =
      let tail = in_turn (count + 1) (count + 1) rest ++ Merge (count + length ((on, rule) ∷ rest)) at by ∷ [] in
      let f = takes_first rows after (Apply count on rule) tail taken in
      let next : Behind p goal (n - 1 + m) f.row =
      behind_rule rows count n j m rule q f.row stands b low makes (subst (λ g. Gives rows (Apply count g rule) f.row) is f.is_its.given) in
      let more : count + 1 ≡ length (rows ++ f.row ∷ []) = ap (λ c. c + 1) counted ∙ sym (length-append rows (f.row ∷ [])) in
      let here : At (rows ++ f.row ∷ []) (count + 1) f.row = subst (λ c. At (rows ++ f.row ∷ []) (c + 1) f.row) (sym counted) (At-between rows f.row []) in
      let far : count + length ((on, rule) ∷ rest) ≡ count + 1 + length rest = omega arith in
      turned rest (rows ++ f.row ∷ []) after (count + 1) (n - 1 + m) z k by at f.row more here next others less e
      (subst (λ c. Takes (rows ++ f.row ∷ []) (in_turn (count + 1) (count + 1) rest ++ Merge c at by ∷ []) after) far f.others)

  -- the same, where the first rule is on a fact, which is a row from before
  pub closed : (rules : List (ℕ × Rule)) (rows after : List Provable) (fact count n z k by at on j m : ℕ) (rule : Rule) (q : Provable) → count ≡ length rows →
      At rows fact q → Behind p goal n q → on ≡ goal + j → j < n → Makes rule m → Turns (n - 1 + m) rules z → k < z → at ≡ goal + k →
      Takes rows (closed_by by fact count ((on, rule) ∷ rules) at) after → Ends after
  closed rules rows after fact count n z k by at on j m rule q counted stands b is low makes others less e taken =
      let tail = in_turn (count + 1) (count + 1) rules ++ Merge (count + length ((on, rule) ∷ rules)) at by ∷ [] in
      let f = takes_first rows after (Apply fact on rule) tail taken in
      let next : Behind p goal (n - 1 + m) f.row =
      behind_rule rows fact n j m rule q f.row stands b low makes (subst (λ g. Gives rows (Apply fact g rule) f.row) is f.is_its.given) in
      let more : count + 1 ≡ length (rows ++ f.row ∷ []) = ap (λ c. c + 1) counted ∙ sym (length-append rows (f.row ∷ [])) in
      let here : At (rows ++ f.row ∷ []) (count + 1) f.row = subst (λ c. At (rows ++ f.row ∷ []) (c + 1) f.row) (sym counted) (At-between rows f.row []) in
      let far : count + length ((on, rule) ∷ rules) ≡ count + 1 + length rules = omega arith in
      turned rules (rows ++ f.row ∷ []) after (count + 1) (n - 1 + m) z k by at f.row more here next others less e
      (subst (λ c. Takes (rows ++ f.row ∷ []) (in_turn (count + 1) (count + 1) rules ++ Merge c at by ∷ []) after) far f.others)

-- rows from which the steps are taken, so many, among which a fact's row is this one
pub record From (after : List Provable) (fact n : ℕ) (q : Provable) (steps : List Step) : Type 0 where
  pub rows : List Provable
  pub count : n ≡ length rows
  pub stands : At rows fact q
  pub taken : Takes rows steps after

-- a step on other rows passes
pub pass : (after : List Provable) (fact n : ℕ) (q : Provable) (step : Step) (steps : List Step) → From after fact n q (step ∷ steps) →
    From after fact (n + 1) q steps
pass after fact n q step steps h =
    let f = takes_first h.rows after step steps h.taken in
    record {
      rows = h.rows ++ f.row ∷ [];
      count = omega (arith, h.count, length-append h.rows (f.row ∷ []));
      stands = At-more h.rows (f.row ∷ []) fact q h.stands;
      taken = f.others;
    }

-- rows stay while steps are taken
pub rows_kept : (rows after : List Provable) (steps : List Step) (n : ℕ) (q : Provable) → Takes rows steps after → At rows n q → At after n q
rows_kept rows _ _ n q none h = h
rows_kept rows _ _ n q (more {steps} {mid} {p} taken is) h = At-more mid (p ∷ []) n q (rows_kept rows mid steps n q taken h)
