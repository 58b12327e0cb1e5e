-- An axiom is found in one of the groups of rows.
use Rattle.std.proofs.Common.{◌≡◌, ℕ, Bool, refl, sym, subst, List, ◌++◌, map, take, drop, find, Option}
use Rattle.std.specs.Str.{bytes_eq}
use Rattle.std.specs.Option.{option_copied, option_or}
use denote.Ref.{Bor}
use Rattle.dlk_calculus.specs.Axioms.{Axiom, axioms, axiom_named, box_axioms, loop_axioms, ode_axioms, differential_axioms, first_order_axioms, equality_axioms}
use Rattle.dlk_axioms.specs.declared.table.AxiomRow.{AxiomRow}
use Rattle.dlk_axioms.specs.Answers.{Finds}
use Rattle.dlk_axioms.specs.Rows.{said}
use Rattle.dlk_axioms.proofs.Finding.{find_row, find_either}

abbrev pub Fits : Axiom → Bor AxiomRow → Type 0
Fits a row = said row.now ≡ a

-- the axiom of this name among those of a list
pub Found : List ℕ → List Axiom → Option (Bor AxiomRow) → Type 0
Found name all o = Finds Fits (find (λ (a : Axiom). bytes_eq a.name name) all) o

pub found : (name : List ℕ) (rows : List AxiomRow) (all : List Axiom) → map said rows ≡ all →
    (o : Option (Bor AxiomRow)) → option_copied o ≡ find (λ (row : AxiomRow). bytes_eq row.name.now name) rows → Found name all o
unfolding Found
found name rows all same o is = find_row said (λ (a : Axiom). bytes_eq a.name name) rows all same o is

pub found_either : (name : List ℕ) (xs ys : List Axiom) (o p both : Option (Bor AxiomRow)) →
    both ≡ option_or o p → Found name xs o → Found name ys p → Found name (xs ++ ys) both
unfolding Found
found_either name xs ys o p both is h l =
    let test : Axiom → Bool = λ a. bytes_eq a.name name in
    subst (Finds Fits (find test (xs ++ ys))) (sym is) (find_either Fits test xs ys o p h l)

-- the groups of rows
abbrev pub assignments : List Axiom
assignments = take 5 box_axioms

abbrev pub other_boxes : List Axiom
other_boxes = drop 5 box_axioms

abbrev pub domains : List Axiom
domains = take 3 ode_axioms

abbrev pub effects : List Axiom
effects = take 3 (drop 3 ode_axioms)

abbrev pub evolutions : List Axiom
evolutions = take 2 (drop 6 ode_axioms)

abbrev pub solutions : List Axiom
solutions = drop 8 ode_axioms

abbrev pub sums : List Axiom
sums = take 5 differential_axioms

abbrev pub products : List Axiom
products = take 3 (drop 5 differential_axioms)

abbrev pub comparisons : List Axiom
comparisons = take 6 (drop 8 differential_axioms)

abbrev pub connectives : List Axiom
connectives = drop 14 differential_axioms

-- the groups one after the other
abbrev pub to_boxes : List Axiom
to_boxes = assignments ++ other_boxes

abbrev pub to_loops : List Axiom
to_loops = to_boxes ++ loop_axioms

abbrev pub to_domains : List Axiom
to_domains = to_loops ++ domains

abbrev pub to_effects : List Axiom
to_effects = to_domains ++ effects

abbrev pub to_odes : List Axiom
to_odes = to_effects ++ evolutions

abbrev pub to_solutions : List Axiom
to_solutions = to_odes ++ solutions

abbrev pub to_sums : List Axiom
to_sums = to_solutions ++ sums

abbrev pub to_products : List Axiom
to_products = to_sums ++ products

abbrev pub to_comparisons : List Axiom
to_comparisons = to_products ++ comparisons

abbrev pub to_connectives : List Axiom
to_connectives = to_comparisons ++ connectives

abbrev pub to_first_order : List Axiom
to_first_order = to_connectives ++ first_order_axioms

all_are : to_first_order ++ equality_axioms ≡ axioms
all_are = refl

pub found_in_all : (name : List ℕ) (o : Option (Bor AxiomRow)) → Found name (to_first_order ++ equality_axioms) o → Finds Fits (axiom_named name) o
unfolding Found
found_in_all name o h = subst (λ (all : List Axiom). Finds Fits (find (λ (a : Axiom). bytes_eq a.name name) all) o) all_are h
