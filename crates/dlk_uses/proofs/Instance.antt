-- What the lines of an instance prove.
use Rattle.std.proofs.Common.{◌≡◌, ℕ, ◌+◌, List, [], ◌∷◌, ◌++◌, length, refl, sym, ap, subst, ◌∙◌, arith, Bool, true, false, if◌then◌else◌, Some}
use Rattle.std.specs.Prelude.{All}
use Rattle.std.specs.Str.{bytes_eq}
use Rattle.std.proofs.lemmas.List.Elements.{All-nil, All-cons, All-append, All-head, All-tail}
use Rattle.dlk_tree.specs.Trees.{Tree}
use Rattle.dlk_calculus.specs.declared.reason.Reason.TheVariants.{NotEqual}
use Rattle.dlk_calculus.specs.Axioms.{Axiom, axiom_named}
use Rattle.dlk_calculus.specs.Pairs.{Pair, Extra, IsWellFormed}
use Rattle.dlk_calculus.specs.Places.{At}
use Rattle.dlk_calculus.specs.Provables.{Provable, known, renamed}
use Rattle.dlk_calculus.specs.Rename.{swap}
use Rattle.dlk_calculus.specs.Sequents.{Sequent, alone_right}
use Rattle.dlk_calculus.specs.Steps.{Step, UseAxiom, Substitute, Rename, Gives, Derives}
use Rattle.dlk_calculus.specs.Steps.{by_axiom as derives_axiom, by_renaming as derives_renamed}
use Rattle.dlk_calculus.specs.Steps.{rename as by_renaming}
use Rattle.dlk_calculus.specs.Subst.{Subst}
use Rattle.dlk_match.specs.Matching.{exchanged}
use Rattle.dlk_kernel.specs.Taken.{Takes}
use Rattle.dlk_uses.specs.Taking.{FirstFault}
use Rattle.dlk_uses.specs.Uses.{renaming, substituting, instance, ProvesLast}
use Rattle.dlk_calculus.proofs.PlaceLaws.{at_one, At_place}
use Rattle.dlk_uses.proofs.Taking.{takes_first, takes_none}
use Rattle.dlk_uses.proofs.Unequal.{Unlike, unlike_fault}
use Rattle.dlk_uses.proofs.Fitting.{added, gives_axiom, gives_substituted}
use Rattle.dlk_uses.proofs.Substituted.{alone_of_alone}

-- Lines that put nothing in the place of anything can't fail for unlike formulas.

abbrev IsQuiet : Step → Type 0
IsQuiet step = (rows : List Provable) → ¬ Unlike rows step

among : (steps before behind : List Step) (step : Step) → All IsQuiet steps → steps ≡ before ++ step ∷ behind → IsQuiet step
among steps [] behind step all e = All-head IsQuiet step behind (subst (All IsQuiet) e all)
among [] (x ∷ xs) behind step all e = absurd (cc e)
among (y ∷ ys) (x ∷ xs) behind step all e = let same : ys ≡ xs ++ step ∷ behind = cc in among ys xs behind step (All-tail IsQuiet y ys all) same

quiet_renaming : (n : ℕ) (renames : List (List ℕ × List ℕ)) → All IsQuiet (renaming n renames)
quiet_renaming n [] = All-nil IsQuiet
quiet_renaming n (r ∷ renames) =
    elim (bytes_eq r.0 r.1) as (λ b. All IsQuiet (if b then renaming n renames else Rename n r.0 r.1 ∷ renaming (n + 1) renames)) [
      | true ↦ quiet_renaming n renames
      | false ↦ All-cons IsQuiet (Rename n r.0 r.1) (renaming (n + 1) renames) (λ rows u. u) (quiet_renaming (n + 1) renames)
    ]

quiet_substituting : (n : ℕ) (pairs : List Pair) → All IsQuiet (substituting n pairs)
quiet_substituting n [] = All-nil IsQuiet
quiet_substituting n (p ∷ pairs) = All-cons IsQuiet (Substitute n (p ∷ pairs)) [] (λ rows u. u) (All-nil IsQuiet)

pub instance_fits : (rows : List Provable) (n : ℕ) (name : List ℕ) (extra : Extra) → ¬ FirstFault rows (instance n name extra) NotEqual
instance_fits rows n name extra f =
    let renames = renaming (n + 1) extra.renames in
    let pairs = substituting (n + length (UseAxiom name ∷ renames)) extra.pairs in
    let all : All IsQuiet (instance n name extra) =
    All-append IsQuiet (UseAxiom name ∷ renames) pairs (All-cons IsQuiet (UseAxiom name) renames (λ rows u. u) (quiet_renaming (n + 1) extra.renames))
    (quiet_substituting (n + length (UseAxiom name ∷ renames)) extra.pairs) in
    among (instance n name extra) f.before f.behind f.step all f.steps_are f.between (unlike_fault f.between f.step f.fault)

-- Rows that steps have made of rows, of which the last proves a formula.
record Reaches (rows : List Provable) (n : ℕ) (g : Tree) (more : List Step) (after : List Provable) : Type 0 where
  mid : List Provable
  counted : n ≡ length mid
  last : At mid n (known g)
  derived : Derives (known g)
  keeps : (k : ℕ) (p : Provable) → At rows k p → At mid k p
  others : Takes mid more after

gives_renamed : (rows : List Provable) (m : ℕ) (x y : List ℕ) (p q : Provable) → At rows m p → Gives rows (Rename m x y) q →
    (q ≡ renamed x y p) × (Derives p → Derives (renamed x y p))
gives_renamed rows m x y p _ row (by_renaming _ _ _ other there x_is y_is) =
    (ap (renamed x y) (at_one rows m other p there row), λ derived. derives_renamed x y derived x_is y_is)

abbrev Renames : List (List ℕ × List ℕ) → Type 0
Renames renames = (rows : List Provable) (n : ℕ) (g : Tree) (more : List Step) (after : List Provable) → n ≡ length rows → At rows n (known g) →
    Derives (known g) → Takes rows (renaming n renames ++ more) after → Reaches rows (n + length (renaming n renames)) (exchanged renames g) more after

one_renaming : (b : Bool) (x y : List ℕ) (renames : List (List ℕ × List ℕ)) → Renames renames → (rows : List Provable) (n : ℕ) (g : Tree)
    (more : List Step) (after : List Provable) → n ≡ length rows → At rows n (known g) → Derives (known g) →
    Takes rows ((if b then renaming n renames else Rename n x y ∷ renaming (n + 1) renames) ++ more) after →
    Reaches rows (n + length (if b then renaming n renames else Rename n x y ∷ renaming (n + 1) renames))
    (exchanged renames (if b then g else swap x y g)) more after
one_renaming true x y renames others rows n g more after counted last derived taken = others rows n g more after counted last derived taken
one_renaming false x y renames others rows n g more after counted last derived taken =
    let f = takes_first rows after (Rename n x y) (renaming (n + 1) renames ++ more) taken in
    let is = gives_renamed rows n x y (known g) f.row last f.is_its.given in
    let now = added rows n f.row counted in
    let r = others (rows ++ f.row ∷ []) (n + 1) (swap x y g) more after now.counted (subst (λ p. At (rows ++ f.row ∷ []) (n + 1) p) is.0 now.last)
    (is.1 derived) f.others in
    let same : n + 1 + length (renaming (n + 1) renames) ≡ n + length (Rename n x y ∷ renaming (n + 1) renames) = omega arith in
    record {
      mid = r.mid;
      counted = sym same ∙ r.counted;
      last = subst (λ k. At r.mid k (known (exchanged renames (swap x y g)))) same r.last;
      derived = r.derived;
      keeps = λ k p h. r.keeps k p (now.keeps k p h);
      others = r.others;
    }

renamed_in_turn : (renames : List (List ℕ × List ℕ)) → Renames renames
renamed_in_turn [] rows n g more after counted last derived taken =
    let same : n ≡ n + 0 = omega arith in
    record {
      mid = rows;
      counted = sym same ∙ counted;
      last = subst (λ k. At rows k (known g)) same last;
      derived = derived;
      keeps = λ k p h. h;
      others = taken;
    }
renamed_in_turn (r ∷ renames) rows n g more after counted last derived taken =
    one_renaming (bytes_eq r.0 r.1) r.0 r.1 renames (renamed_in_turn renames) rows n g more after counted last derived taken

-- the last of the rows proves an instance of the formula
pub record Instantiates (rows : List Provable) (pairs : List Pair) (g : Tree) (between : List Provable) : Type 0 where
  pub f : Tree
  pub row : Provable
  pub last : At between (length between) row
  pub concludes : row.conclusion ≡ alone_right f
  pub makes : Subst pairs g f
  pub formed : IsWellFormed pairs
  pub keeps : (k : ℕ) (p : Provable) → At rows k p → At between k p

none_formed : IsWellFormed []
none_formed = record { none = λ n w ill. let there = At_place [] n ill.0 ill.1 in omega (arith, there.0, there.1) }

substituted_last : (pairs : List Pair) (mid between : List Provable) (k : ℕ) (g : Tree) → k ≡ length mid → At mid k (known g) → Subst [] g g →
    Takes mid (substituting k pairs) between → Instantiates mid pairs g between
substituted_last [] mid between k g counted last itself taken =
    let same : between ≡ mid = takes_none mid between taken in
    record {
      f = g;
      row = known g;
      last = subst (λ rows. At rows (length rows) (known g)) (sym same) (subst (λ i. At mid i (known g)) counted last);
      concludes = refl;
      makes = itself;
      formed = none_formed;
      keeps = λ i p h. subst (λ rows. At rows i p) (sym same) h;
    }
substituted_last (p ∷ pairs) mid between k g counted last itself taken =
    let f = takes_first mid between (Substitute k (p ∷ pairs)) [] taken in
    let same : between ≡ mid ++ f.row ∷ [] = takes_none (mid ++ f.row ∷ []) between f.others in
    let now = added mid k f.row counted in
    let of = gives_substituted mid k (p ∷ pairs) (known g) f.row last f.is_its.given in
    let a = alone_of_alone (p ∷ pairs) g f.row.conclusion of.makes.conclusion in
    record {
      f = a.new;
      row = f.row;
      last = subst (λ rows. At rows (length rows) f.row) (sym same) (subst (λ i. At (mid ++ f.row ∷ []) i f.row) now.counted now.last);
      concludes = a.is;
      makes = a.made;
      formed = of.formed;
      keeps = λ i q h. subst (λ rows. At rows i q) (sym same) (now.keeps i q h);
    }

pub instantiates : (rows between : List Provable) (name : List ℕ) (extra : Extra) (a : Axiom) → axiom_named name ≡ Some a →
    (Derives (known (exchanged extra.renames a.formula)) → Subst [] (exchanged extra.renames a.formula) (exchanged extra.renames a.formula)) →
    Takes rows (instance (length rows) name extra) between → Instantiates rows extra.pairs (exchanged extra.renames a.formula) between
instantiates rows between name extra a named itself taken =
    let n = length rows in
    let renames = renaming (n + 1) extra.renames in
    let k = n + length (UseAxiom name ∷ renames) in
    let f = takes_first rows between (UseAxiom name) (renames ++ substituting k extra.pairs) taken in
    let is : f.row ≡ known a.formula = gives_axiom rows name a f.row named f.is_its.given in
    let now = added rows n f.row refl in
    let r = renamed_in_turn extra.renames (rows ++ f.row ∷ []) (n + 1) a.formula (substituting k extra.pairs) between now.counted
    (subst (λ p. At (rows ++ f.row ∷ []) (n + 1) p) is now.last)
    (derives_axiom name a named) f.others in
    let same : n + 1 + length renames ≡ k = omega arith in
    let counted : k ≡ length r.mid = subst (λ m. m ≡ length r.mid) same r.counted in
    let last : At r.mid k (known (exchanged extra.renames a.formula)) = subst (λ m. At r.mid m (known (exchanged extra.renames a.formula))) same r.last in
    let i = substituted_last extra.pairs r.mid between k (exchanged extra.renames a.formula) counted last (itself r.derived) r.others in
    record {
      f = i.f;
      row = i.row;
      last = i.last;
      concludes = i.concludes;
      makes = i.makes;
      formed = i.formed;
      keeps = λ m p h. i.keeps m p (r.keeps m p (now.keeps m p h));
    }

-- the last row proves one formula alone
pub proves_one : (rows : List Provable) (f g : Tree) → ProvesLast rows f → ProvesLast rows g → f ≡ g
proves_one rows f g p q =
    let same : p.row ≡ q.row = at_one rows (length rows) p.row q.row p.is_last q.is_last in
    let alone : f ∷ [] ≡ g ∷ [] = ap (λ (s : Sequent). s.succ) (sym p.concludes ∙ ap (λ (r : Provable). r.conclusion) same ∙ q.concludes) in
    cc
