-- One use of an axiom at an inner position: its steps are those of an atom, and the goal is rewritten.
use Rattle.std.proofs.Common.{◌≡◌, ℕ, ◌+◌, ◌≤◌, List, [], ◌∷◌, ◌++◌, length, refl, sym, ap, subst, ◌∙◌, arith, Some, append-nil, length-append}
use Rattle.std.specs.Prelude.{IsTrue}
use Rattle.dlk_tree.specs.declared.op.Sort.{Sort}
use Rattle.dlk_tree.specs.declared.op.Sort.TheVariants.{Term, Formula}
use Rattle.dlk_tree.specs.Trees.{Tree, sort}
use Rattle.dlk_calculus.specs.declared.form.AxiomForm.{AxiomForm}
use Rattle.dlk_calculus.specs.declared.form.AxiomForm.TheVariants.{E, Q, R}
use Rattle.dlk_calculus.specs.Arithmetic.{is_arithmetic_sequent}
use Rattle.dlk_calculus.specs.Axioms.{Axiom, axiom_named}
use Rattle.dlk_calculus.specs.Limits.{most_leaves, most_rows, IsSmall, IsShallow}
use Rattle.dlk_calculus.specs.Limited.{InSequent}
use Rattle.dlk_calculus.specs.Notation.{eq}
use Rattle.dlk_calculus.specs.Pairs.{Extra}
use Rattle.dlk_calculus.specs.Paths.{subtree, put_at, IsInnermost}
use Rattle.dlk_calculus.specs.Places.{At}
use Rattle.dlk_calculus.specs.Provables.{Provable, AreNew, no_more}
use Rattle.dlk_calculus.specs.Provables.{there as is_there, added as is_added}
use Rattle.dlk_calculus.specs.Rules.{imply, equiv}
use Rattle.dlk_calculus.specs.Sequents.{Sequent, alone_right, IsFormula}
use Rattle.dlk_calculus.specs.Steps.{Step}
use Rattle.dlk_calculus.proofs.PathLaws.{put_made, put_sort, put_there, subtree_made, subtree_lacks, put_join, subtree_join}
use Rattle.dlk_kernel.specs.Taken.{Takes}
use Rattle.dlk_match.specs.Matching.{Match}
use Rattle.dlk_sequent.specs.declared.sequent.Place.TheVariants.{Succ}
use Rattle.dlk_uses.specs.Uses.{Forwards, Use, key, may_stand, instance, by_equivalence, by_equation, by_conditional_equation, Finishes, equivalence}
use Rattle.dlk_uses.specs.Uses.{equation, conditional_equation}
use Rattle.dlk_derive.specs.Derives.{use_of}
use Rattle.dlk_derive.specs.Plans.{Call}
use Rattle.dlk_derive.specs.Ways.{IsPlainWay}
use Rattle.dlk_elab.specs.Atoms.{alone as name_alone, use_axiom, AtomSteps, uses}
use Rattle.dlk_reach.specs.Derived.{Gathers, none_asked, one_asked}
use Rattle.dlk_reach.proofs.Clean.{IsClean, formula_of}
use Rattle.dlk_reach.proofs.Equation.{TermSite, equation_goes, conditional_goes}
use Rattle.dlk_reach.proofs.Equivalence.{IsFine, with_goal, only_goal, proof_of, Comes, equivalence_goes}
use Rattle.dlk_reach.proofs.Goes.{Goes}
use Rattle.dlk_reach.proofs.Instances.{Proved, Instanced}
use Rattle.dlk_reach.proofs.Matches.{nothing}
use Rattle.dlk_reach.proofs.PlainWays.{none_below}
use Rattle.dlk_reach.proofs.Sites.{IsRoomy, IsPlainTerm, put_lacks, subtree_size, site_of, term_site_of}

-- the axiom, used at this path of the formula at place 1 on the right
abbrev pub the_use : Axiom → List ℕ → Use
the_use a path = record { its_axiom = a; direction = Forwards; place = Succ 1; path = path; given = nothing }

abbrev pub call_of : (name path : List ℕ) → Call
call_of name path = record { its_axiom = name; path = path }

-- the axiom of this name and form may be used so, and its key matches what stands at the path
pub record Fitting (name : List ℕ) (form : AxiomForm) (path : List ℕ) (e : Tree) (extra : Extra) : Type 0 where
  pub its_axiom : Axiom
  pub named : axiom_named name ≡ Some its_axiom
  pub called : its_axiom.name ≡ name
  pub form_is : its_axiom.form ≡ form
  pub may : IsTrue (may_stand form Forwards (Succ 1) path)
  pub there : Tree
  pub stands : subtree e path ≡ Some there
  pub matches : Match (key its_axiom.form Forwards (Succ 1) its_axiom.formula) its_axiom.own_names there nothing extra

-- The steps are those of the atom: the lines of the instance, and then those that use it.
atom_steps : (rows between after : List Provable) (n k : ℕ) (c : Sequent) (e f : Tree) (leaves : List Sequent) (name path : List ℕ) (form : AxiomForm)
    (extra : Extra) (rest : List Step) (x : Fitting name form path e extra) → Comes n c e leaves rows → Takes rows (instance n name extra) between →
    Proved rows k f between →
    Finishes k (only_goal n e) (the_use x.its_axiom path) e f rest → Takes between rest after → (byte : ℕ) →
    AtomSteps rows (length rows) 1 (use_of byte (Succ 1) (call_of name path)) (instance (length rows) x.its_axiom.name extra ++ rest) after
atom_steps rows between after n k c e f leaves name path form extra rest x comes first is finishes then_on byte =
    let used = the_use x.its_axiom path in
    let taken : Takes rows (instance n x.its_axiom.name extra) between = subst (λ z. Takes rows (instance n z extra) between) (sym x.called) first in
    uses (alone_right e) used extra e between rest
    (with_goal c e leaves, subst (λ m. At rows m (with_goal c e leaves)) comes.counted comes.last, refl)
    (use_axiom used e x.there extra (record { name = name; names = (refl, name_alone); is_axiom = x.named })
    (record { formula = refl; inside = x.stands })
    (subst (λ form. IsTrue (may_stand form Forwards (Succ 1) path)) (sym x.form_is) x.may) x.matches)
    (subst (λ m. Takes rows (instance m x.its_axiom.name extra) between) comes.counted taken)
    (record {
      f = f;
      proves = record { row = proof_of f []; is_last = subst (λ m. At between m (proof_of f [])) is.counted is.proof; concludes = refl };
      finishes = subst (λ m. Finishes (length between) (only_goal m e) used e f rest) comes.counted
          (subst (λ m. Finishes m (only_goal n e) used e f rest) is.counted finishes);
    }) then_on

-- an atom's steps are taken, and behind at most 19 rows more the goal is this one
pub record Used (rows : List Provable) (n : ℕ) (c : Sequent) (call : Call) (e : Tree) (leaves : List Sequent) (asked : List Tree) : Type 0 where
  pub steps : List Step
  pub after : List Provable
  pub atom : (byte : ℕ) → AtomSteps rows (length rows) 1 (use_of byte (Succ 1) call) steps after
  pub rows_now : ℕ
  pub leaves_now : List Sequent
  pub comes : Comes rows_now c e leaves_now after
  pub few : rows_now ≤ n + 19
  pub gathers : Gathers leaves asked leaves_now

used_of : (rows : List Provable) (n m most : ℕ) (c : Sequent) (e new f : Tree) (leaves now : List Sequent) (asked : List Tree) (name path : List ℕ)
    (form : AxiomForm) (extra : Extra) (rest : List Step) (x : Fitting name form path e extra) → Comes n c e leaves rows →
    (i : Instanced rows n most name extra f) →
    Finishes i.k (only_goal n e) (the_use x.its_axiom path) e f rest → Goes i.goes.after rest (Comes m c new now) → m ≤ n + 19 → Gathers leaves asked now →
    Used rows n c (call_of name path) new leaves asked
used_of rows n m most c e new f leaves now asked name path form extra rest x comes i finishes goes few gathers = record {
  steps = instance (length rows) x.its_axiom.name extra ++ rest;
  after = goes.after;
  atom = atom_steps rows i.goes.after goes.after n i.k c e f leaves name path form extra rest x comes i.goes.takes i.goes.holds finishes goes.takes;
  rows_now = m;
  leaves_now = now;
  comes = goes.holds;
  few = few;
  gathers = gathers;
}

same_leaves : (rows : List Provable) (k : ℕ) (c : Sequent) (e : Tree) (leaves : List Sequent) {steps : List Step} →
    Goes rows steps (Comes k c e (leaves ++ [])) → Goes rows steps (Comes k c e leaves)
same_leaves rows k c e leaves {steps = steps} goes = subst (λ ls. Goes rows steps (Comes k c e ls)) (append-nil leaves) goes

-- a clean tree at a path
pub clean_there : (e : Tree) (path : List ℕ) (s : Tree) (k : Sort) → IsFormula e → subtree e path ≡ Some s → sort s ≡ k → IsClean k s
clean_there e path s k f h is = record {
  well_made = subtree_made e path s f.well_made h;
  sort_is = is;
  no_dot = subtree_lacks _ e path s f.no_dot h;
  no_hole = subtree_lacks _ e path s f.no_hole h;
}

pub put_clean : (e : Tree) (path : List ℕ) (s next : Tree) (k : Sort) → IsFormula e → subtree e path ≡ Some s → IsClean k s → IsClean k next →
    IsFormula (put_at e path next)
put_clean e path s next k f h x y = let same : sort next ≡ sort s = y.sort_is ∙ sym x.sort_is in record {
  well_made = put_made s next same y.well_made e path f.well_made h;
  sort_is = put_sort s next same e path h ∙ f.sort_is;
  no_dot = put_lacks _ next y.no_dot e path f.no_dot;
  no_hole = put_lacks _ next y.no_hole e path f.no_hole;
}

plain_term : (t : Tree) → IsClean Term t → IsFine t → IsPlainTerm t
plain_term t x f = record { well_made = x.well_made; sort_is = x.sort_is; no_dot = x.no_dot; no_hole = x.no_hole; fine = f }

pub fine_below : (e : Tree) (path : List ℕ) (s : Tree) → IsRoomy e → subtree e path ≡ Some s → IsFine s
fine_below e path s r h =
    let l = subtree_size e path s h in let a = l.0 in let b = l.1 in let x = r.small in let y = r.shallow in
    record { small = omega (arith, a, x); shallow = omega (arith, b, y) }

fine_inside : (e : Tree) (path : List ℕ) (s : Tree) → IsFine e → subtree e path ≡ Some s → IsFine s
fine_inside e path s r h =
    let l = subtree_size e path s h in let a = l.0 in let b = l.1 in let x = r.small in let y = r.shallow in
    record { small = omega (arith, a, x); shallow = omega (arith, b, y) }

pub one_at_most : (leaves : List Sequent) (s : Sequent) (new : List Sequent) → AreNew leaves (s ∷ []) new → length new ≤ 1
one_at_most leaves s _ (is_there h no_more) = omega arith
one_at_most leaves s _ (is_added h no_more) = omega arith

-- where the goal is, and what is free for it: `next` comes in the place of s
pub record Stands (rows : List Provable) (n : ℕ) (c : Sequent) (leaves : List Sequent) (e : Tree) (path : List ℕ) (s next : Tree) : Type 0 where
  pub comes : Comes n c e leaves rows
  pub room : n + 19 ≤ most_rows
  pub few : length leaves + 1 ≤ most_leaves
  pub small : InSequent IsSmall c
  pub shallow : InSequent IsShallow c
  pub formula : IsFormula e
  pub roomy : IsRoomy e
  pub stands : subtree e path ≡ Some s
  pub new_fine : IsFine (put_at e path next)

-- a term on a plain way from a formula
pub record OnWay (e : Tree) (path outer inner : List ℕ) (d : Tree) : Type 0 where
  pub parts : path ≡ outer ++ inner
  pub way : subtree e outer ≡ Some d
  pub is_formula : sort d ≡ Formula
  pub plain : IsPlainWay d inner

-- what follows of it
record TermThere (e : Tree) (path outer inner : List ℕ) (d l next : Tree) : Type 0 where
  site : TermSite e outer inner d l next
  around : IsInnermost e path outer inner d
  same : put_at e path next ≡ put_at e outer (put_at d inner next)

-- a condition that may be a leaf
pub record MayBeAsked (b : Tree) : Type 0 where
  pub formula : IsFormula b
  pub fine : IsFine b
  pub arithmetic : IsTrue (is_arithmetic_sequent (alone_right b))

module _ {rows : List Provable} {n : ℕ} {c : Sequent} {leaves : List Sequent} {e : Tree} {path : List ℕ} {l next : Tree}
    (st : Stands rows n c leaves e path l next) where
  pub next_fine : IsFine next
  next_fine = fine_inside (put_at e path next) path next st.new_fine (put_there e path l next st.stands)

  term_there : IsClean Term l → IsClean Term next → (outer inner : List ℕ) (d : Tree) → OnWay e path outer inner d → TermThere e path outer inner d l next
  term_there x y outer inner d on =
      let same : put_at e path next ≡ put_at e outer (put_at d inner next) = ap (λ p. put_at e p next) on.parts ∙ put_join e outer inner d next on.way in
      let inside : subtree d inner ≡ Some l = sym (subtree_join e outer inner d on.way) ∙ ap (subtree e) (sym on.parts) ∙ st.stands in
      record {
        site = term_site_of e outer inner d l next st.formula st.roomy on.way on.is_formula inside x.sort_is on.plain (plain_term next y next_fine)
            (subst IsFine same st.new_fine);
        around = record {
          parts = on.parts;
          stands = on.way;
          is_formula = on.is_formula;
          smallest = none_below inner d l (subtree_made e outer d st.formula.well_made on.way) inside on.plain;
        };
        same = same;
      }

  no_leaf_more : length (leaves ++ []) ≤ most_leaves
  no_leaf_more = let few = st.few in let same = ap length (append-nil leaves) in omega (arith, few, same)

  -- an axiom l=next, at a term
  pub equation_used : {name : List ℕ} {extra : Extra} (most : ℕ) → most ≤ 3 → IsClean Term l → IsClean Term next → (outer inner : List ℕ) (d : Tree) →
      OnWay e path outer inner d → Fitting name Q path e extra → Instanced rows n most name extra (eq l next) →
      Used rows n c (call_of name path) (put_at e path next) leaves []
  equation_used {name = name} {extra = extra} most least x y outer inner d on fits i =
      let there = term_there x y outer inner d on in
      let new = put_at e outer (put_at d inner next) in
      let few = i.few in
      let room = st.room in
      let goes = equation_goes i.goes.after i.k n c leaves [] [] e outer inner d l next i.goes.holds.counted (omega (arith, room, few, least))
      (i.goes.holds.keeps n _ st.comes.last) i.goes.holds.proof no_more (omega arith) no_more no_leaf_more st.small st.shallow there.site in
      subst (λ t. Used rows n c (call_of name path) t leaves []) (sym there.same)
      (used_of rows n (i.k + 4 + 3 + 5) most c e new (eq l next) leaves leaves [] name path Q extra
      (by_equation i.k (only_goal n e) (Succ 1) Forwards e outer inner d l next) fits st.comes i (equation outer inner d fits.form_is there.around)
      (same_leaves i.goes.after (i.k + 4 + 3 + 5) c new leaves goes) (omega (arith, few, least)) none_asked)

  -- an axiom l <-> next, at a formula
  pub equivalence_used : {name : List ℕ} {extra : Extra} (most : ℕ) → most ≤ 3 → IsClean Formula l → IsClean Formula next → Fitting name E path e extra →
      Instanced rows n most name extra (equiv l next) → Used rows n c (call_of name path) (put_at e path next) leaves []
  equivalence_used {name = name} {extra = extra} most least x y fits i =
      let new = put_at e path next in
      let few = i.few in
      let room = st.room in
      let goes = equivalence_goes i.goes.after i.k n c leaves [] [] e path l next i.goes.holds.counted (omega (arith, room, few, least))
      (i.goes.holds.keeps n _ st.comes.last) i.goes.holds.proof no_more (omega arith) no_more no_leaf_more st.small st.shallow
      (site_of e path l next st.formula st.roomy st.stands x.sort_is (formula_of next y) next_fine st.new_fine) in
      used_of rows n (i.k + 3 + 5) most c e new (equiv l next) leaves leaves [] name path E extra
      (by_equivalence i.k (only_goal n e) (Succ 1) Forwards e path l next) fits st.comes i (equivalence fits.form_is)
      (same_leaves i.goes.after (i.k + 3 + 5) c new leaves goes) (omega (arith, few, least)) none_asked

  -- an axiom b -> l=next, at a term
  pub condition_used : {name : List ℕ} {extra : Extra} (b : Tree) → IsClean Term l → IsClean Term next → (outer inner : List ℕ) (d : Tree) →
      OnWay e path outer inner d → MayBeAsked b → IsFormula (eq l next) → IsSmall (imply b (eq l next)) × IsShallow (imply b (eq l next)) →
      (new : List Sequent) → AreNew leaves (alone_right b ∷ []) new → Fitting name R path e extra → Instanced rows n 2 name extra (imply b (eq l next)) →
      Used rows n c (call_of name path) (put_at e path next) leaves (b ∷ [])
  condition_used {name = name} {extra = extra} b x y outer inner d on asked is both new are fits i =
      let there = term_there x y outer inner d on in
      let goal = put_at e outer (put_at d inner next) in
      let few = i.few in
      let room = st.room in
      let leaf_more : length (leaves ++ new) ≤ most_leaves =
      let f = st.few in omega (arith, f, length-append leaves new, one_at_most leaves (alone_right b) new are) in
      let goes = conditional_goes i.goes.after i.k n c leaves new e outer inner d b l next i.goes.holds.counted (omega (arith, room, few))
      (i.goes.holds.keeps n _ st.comes.last) i.goes.holds.proof are leaf_more st.small st.shallow asked.formula asked.fine asked.arithmetic
      is both there.site in
      subst (λ t. Used rows n c (call_of name path) t leaves (b ∷ [])) (sym there.same)
      (used_of rows n (i.k + 5 + 4 + 3 + 5) 2 c e goal (imply b (eq l next)) leaves (leaves ++ new) (b ∷ []) name path R extra
      (by_conditional_equation i.k (only_goal n e) (Succ 1) Forwards e outer inner d b l next) fits st.comes i
      (conditional_equation outer inner d fits.form_is there.around) goes (omega (arith, few)) (one_asked are none_asked))
