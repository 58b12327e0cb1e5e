-- Where a use acts: what it wants of a formula, from the formula's own facts.
use Rattle.std.proofs.Common.{◌≡◌, ℕ, suc, zero, ◌≤◌, List, [], ◌∷◌, refl, sym, ap, ◌∙◌, arith, Some, false, true, Bool}
use Rattle.std.specs.Prelude.{◌&&◌}
use Rattle.std.proofs.lemmas.Bool.{or_parts}
use Rattle.dlk_tree.specs.declared.op.Op.{Op}
use Rattle.dlk_tree.specs.declared.op.Op.TheVariants as Op'
use Rattle.dlk_tree.specs.declared.op.Sort.TheVariants.{Term, Formula}
use Rattle.dlk_tree.specs.Trees.{Tree, node, Forest, no_kids, kid, size, size_all, depth, depth_all, sort, WellMade}
use Rattle.dlk_tree.specs.Occurs.{has, any_has, has_dots, has_hole, is_some_dot}
use Rattle.dlk_calculus.specs.declared.why.Why.TheVariants as Why'
use Rattle.dlk_calculus.specs.Notation.{leaf}
use Rattle.dlk_calculus.specs.Pairs.{is_dot_from, IsWellFormed}
use Rattle.dlk_calculus.specs.Paths.{subtree, subtree_in, put_at, put_in}
use Rattle.dlk_calculus.specs.Sequents.{IsFormula}
use Rattle.dlk_calculus.proofs.PathLaws.{put_itself, put_there, put_made, put_sort, subtree_made, subtree_lacks, put_later, subtree_later}
use Rattle.dlk_uses.proofs.Substituted.{pairs_of_ce, pairs_of_cq}
use Rattle.dlk_derive.specs.Ways.{IsPlainWay}
use Rattle.dlk_derive.proofs.InPlace.{put_size, put_depth}
use Rattle.dlk_reach.proofs.Equivalence.{IsFine, Site}
use Rattle.dlk_reach.proofs.Equation.{TermSite}
use Rattle.dlk_reach.proofs.Formed.{formed_of}
use Rattle.dlk_reach.proofs.Terms.{for_p}
use Rattle.dlk_reach.proofs.Clean.{or_false}

-- ---- what is put

module _ (test : Op → Bool) (new : Tree) (none : has test new ≡ false) where
  mutual
    pub put_lacks : (e : Tree) (path : List ℕ) → has test e ≡ false → has test (put_at e path new) ≡ false
    put_lacks (node op kids) [] lacks = none
    put_lacks (node op kids) (n ∷ path) lacks = let p = or_parts _ _ lacks in or_false p.0 (put_in_lacks kids n path p.1)

    put_in_lacks : (kids : Forest) (n : ℕ) (path : List ℕ) → any_has test kids ≡ false → any_has test (put_in kids n path new) ≡ false
    put_in_lacks no_kids n path lacks = refl
    put_in_lacks (kid t rest) zero path lacks = let p = or_parts _ _ lacks in or_false (put_lacks t path p.0) p.1
    put_in_lacks (kid t rest) (suc n) path lacks =
        let p = or_parts _ _ lacks in ap (any_has test) (put_later t rest n path new) ∙ or_false p.0 (put_in_lacks rest n path p.1)

-- ---- subtrees are smaller

mutual
  pub subtree_size : (e : Tree) (path : List ℕ) (s : Tree) → subtree e path ≡ Some s → (size s ≤ size e) × (depth s ≤ depth e)
  subtree_size (node op kids) [] s h =
      let same : node op kids ≡ s = cc in let a = ap size same in let b = ap depth same in (omega (arith, a), omega (arith, b))
  subtree_size (node op kids) (n ∷ path) s h =
      let below = subtree_in_size kids n path s h in let a = below.0 in let b = below.1 in (omega (arith, a), omega (arith, b))

  subtree_in_size : (kids : Forest) (n : ℕ) (path : List ℕ) (s : Tree) → subtree_in kids n path ≡ Some s → (size s ≤ size_all kids) × (depth s ≤ depth_all kids)
  subtree_in_size no_kids n path s h = absurd (cc h)
  subtree_in_size (kid t rest) zero path s h =
      let below = subtree_size t path s h in let a = below.0 in let b = below.1 in (omega (arith, a), omega (arith, b))
  subtree_in_size (kid t rest) (suc n) path s h =
      let below = subtree_in_size rest n path s (sym (subtree_later t rest n path) ∙ h) in
      let a = below.0 in let b = below.1 in (omega (arith, a), omega (arith, b))

-- ---- pairs

no_dot_from : (n : ℕ) (op : Op) → is_some_dot op ≡ false → is_dot_from n op ≡ false
no_dot_from n (Op'.Dot m) h = absurd (cc h)
no_dot_from n _ h = refl

mutual
  pub lacks_from : (n : ℕ) (t : Tree) → has_dots t ≡ false → has (is_dot_from n) t ≡ false
  lacks_from n (node op kids) h = let p = or_parts _ _ h in or_false (no_dot_from n op p.0) (all_lack_from n kids p.1)

  all_lack_from : (n : ℕ) (kids : Forest) → any_has is_some_dot kids ≡ false → any_has (is_dot_from n) kids ≡ false
  all_lack_from n no_kids h = refl
  all_lack_from n (kid t rest) h = let p = or_parts _ _ h in or_false (lacks_from n t p.0) (all_lack_from n rest p.1)

never : (b : Bool) → (b && false) ≡ false
never true = refl
never false = refl

ce_formed : (l r k : Tree) → IsFormula l → IsFormula r → has_dots k ≡ false → sort k ≡ Formula → IsWellFormed (pairs_of_ce l r k)
ce_formed l r k left right no_dots is = formed_of (pairs_of_ce l r k) (
  elim [
    | Why'.Sort ↦ let e = left.sort_is in rw e refl
    | Why'.Twice ↦ refl
    | Why'.Dot ↦ lacks_from 0 l left.no_dot
    | Why'.Hole ↦ let e = left.no_hole in rw e refl
    | Why'.Taboo ↦ refl
  ],
  (
    elim [
      | Why'.Sort ↦ let e = right.sort_is in rw e refl
      | Why'.Twice ↦ refl
      | Why'.Dot ↦ lacks_from 0 r right.no_dot
      | Why'.Hole ↦ let e = right.no_hole in rw e refl
      | Why'.Taboo ↦ refl
    ],
    (
      elim [
        | Why'.Sort ↦ rw is refl
        | Why'.Twice ↦ refl
        | Why'.Dot ↦ lacks_from 0 k no_dots
        | Why'.Hole ↦ never (has_hole k)
        | Why'.Taboo ↦ refl
      ],
      tt,
    ),
  ),
)

-- ---- a place of a formula

-- a formula that leaves room for one leaf more
pub record IsRoomy (t : Tree) : Type 0 where
  pub small : size t ≤ 29000
  pub shallow : depth t ≤ 890

-- an equivalence of formulas may be used at each formula of a formula
pub site_of : (e : Tree) (path : List ℕ) (l r : Tree) → IsFormula e → IsRoomy e → subtree e path ≡ Some l → sort l ≡ Formula → IsFormula r → IsFine r →
    IsFine (put_at e path r) → Site e path l r
site_of e path l r formula roomy stands is right right_fine new_fine =
    let k = put_at e path (leaf Op'.Hole) in
    let hole_made : WellMade (leaf Op'.Hole) = (record { kids_fit = refl; parts_fit = refl }, tt) in
    let hole_sort : sort (leaf Op'.Hole) ≡ sort l = sym is in
    let same : sort r ≡ sort l = right.sort_is ∙ sym is in
    let left : IsFormula l = record {
      well_made = subtree_made e path l formula.well_made stands;
      sort_is = is;
      no_dot = subtree_lacks _ e path l formula.no_dot stands;
      no_hole = subtree_lacks _ e path l formula.no_hole stands;
    } in
    let small = roomy.small in
    let shallow = roomy.shallow in
    let less = subtree_size e path l stands in
    let a = less.0 in
    let b = less.1 in
    let s = put_size (leaf Op'.Hole) e path in
    let d = put_depth (leaf Op'.Hole) e path in
    record {
      stands = stands;
      formula = formula;
      new_formula = record {
        well_made = put_made l r same right.well_made e path formula.well_made stands;
        sort_is = put_sort l r same e path stands ∙ formula.sort_is;
        no_dot = put_lacks _ r right.no_dot e path formula.no_dot;
        no_hole = put_lacks _ r right.no_hole e path formula.no_hole;
      };
      left = left;
      right = right;
      fine = record { small = omega (arith, small); shallow = omega (arith, shallow) };
      new_fine = new_fine;
      left_fine = record { small = omega (arith, small, a); shallow = omega (arith, shallow, b) };
      right_fine = right_fine;
      context_fine = record { small = omega (arith, small, s); shallow = omega (arith, shallow, d) };
      context_made = put_made l (leaf Op'.Hole) hole_sort hole_made e path formula.well_made stands;
      formed = ce_formed l r k left right (put_lacks _ (leaf Op'.Hole) refl e path formula.no_dot)
          (put_sort l (leaf Op'.Hole) hole_sort e path stands ∙ formula.sort_is);
    }

-- a term that may come into a formula
pub record IsPlainTerm (t : Tree) : Type 0 where
  pub well_made : WellMade t
  pub sort_is : sort t ≡ Term
  pub no_dot : has_dots t ≡ false
  pub no_hole : has_hole t ≡ false
  pub fine : IsFine t

cq_formed : (l r : Tree) → IsPlainTerm l → IsPlainTerm r → IsWellFormed (pairs_of_cq l r)
cq_formed l r left right = formed_of (pairs_of_cq l r) (
  elim [
    | Why'.Sort ↦ let e = left.sort_is in rw e refl
    | Why'.Twice ↦ refl
    | Why'.Dot ↦ lacks_from 0 l left.no_dot
    | Why'.Hole ↦ let e = left.no_hole in rw e refl
    | Why'.Taboo ↦ refl
  ],
  (
    elim [
      | Why'.Sort ↦ let e = right.sort_is in rw e refl
      | Why'.Twice ↦ refl
      | Why'.Dot ↦ lacks_from 0 r right.no_dot
      | Why'.Hole ↦ let e = right.no_hole in rw e refl
      | Why'.Taboo ↦ refl
    ],
    tt,
  ),
)

p_formed : (k : Tree) → sort k ≡ Formula → has (is_dot_from 1) k ≡ false → has_hole k ≡ false → IsWellFormed (for_p k)
p_formed k is no_dots no_hole = formed_of (for_p k) (
  elim [
    | Why'.Sort ↦ rw is refl
    | Why'.Twice ↦ refl
    | Why'.Dot ↦ no_dots
    | Why'.Hole ↦ rw no_hole refl
    | Why'.Taboo ↦ refl
  ],
  tt,
)

-- an equation of terms may be used at each term on a plain way from a formula
pub term_site_of : (e : Tree) (outer inner : List ℕ) (d l r : Tree) → IsFormula e → IsRoomy e → subtree e outer ≡ Some d → sort d ≡ Formula →
    subtree d inner ≡ Some l → sort l ≡ Term → IsPlainWay d inner → IsPlainTerm r → IsFine (put_at e outer (put_at d inner r)) → TermSite e outer inner d l r
term_site_of e outer inner d l r formula roomy way is_formula inside is_term plain right new_fine =
    let dot = leaf (Op'.Dot 0) in
    let dl = put_at d inner l in
    let dr = put_at d inner r in
    let itself : dl ≡ d = put_itself d inner l inside in
    let dot_made : WellMade (leaf (Op'.Dot 0)) = (record { kids_fit = refl; parts_fit = refl }, tt) in
    let dot_sort : sort (leaf (Op'.Dot 0)) ≡ sort l = sym is_term in
    let same : sort r ≡ sort l = right.sort_is ∙ sym is_term in
    let d_made = subtree_made e outer d formula.well_made way in
    let d_dots : has_dots d ≡ false = subtree_lacks _ e outer d formula.no_dot way in
    let d_hole : has_hole d ≡ false = subtree_lacks _ e outer d formula.no_hole way in
    let small = roomy.small in
    let shallow = roomy.shallow in
    let of_d = subtree_size e outer d way in
    let of_l = subtree_size d inner l inside in
    let a = of_d.0 in let b = of_d.1 in let x = of_l.0 in let y = of_l.1 in
    let s = put_size (leaf (Op'.Dot 0)) d inner in
    let t = put_depth (leaf (Op'.Dot 0)) d inner in
    let left : IsPlainTerm l = record {
      well_made = subtree_made d inner l d_made inside;
      sort_is = is_term;
      no_dot = subtree_lacks _ d inner l d_dots inside;
      no_hole = subtree_lacks _ d inner l d_hole inside;
      fine = record { small = omega (arith, small, a, x); shallow = omega (arith, shallow, b, y) };
    } in
    let dr_formula : IsFormula dr = record {
      well_made = put_made l r same right.well_made d inner d_made inside;
      sort_is = put_sort l r same d inner inside ∙ is_formula;
      no_dot = put_lacks _ r right.no_dot d inner d_dots;
      no_hole = put_lacks _ r right.no_hole d inner d_hole;
    } in
    let of_new = subtree_size (put_at e outer dr) outer dr (put_there e outer d dr way) in
    let u = of_new.0 in let v = of_new.1 in
    let f = new_fine.small in let g = new_fine.shallow in
    record {
      inside = inside;
      plain = plain;
      no_dots = d_dots;
      left = record { well_made = left.well_made; sort_is = is_term; fine = left.fine };
      right = record { well_made = right.well_made; sort_is = right.sort_is; fine = right.fine };
      context_fine = record { small = omega (arith, small, a, s); shallow = omega (arith, shallow, b, t) };
      context_made = put_made l dot dot_sort dot_made d inner d_made inside;
      equation_formed = cq_formed l r left right;
      context_formed = p_formed (put_at d inner dot) (put_sort l dot dot_sort d inner inside ∙ is_formula)
          (put_lacks (is_dot_from 1) dot refl d inner (lacks_from 1 d d_dots)) (put_lacks _ dot refl d inner d_hole);
      site = site_of e outer dl dr formula roomy (way ∙ ap Some (sym itself)) (ap sort itself ∙ is_formula) dr_formula
          (record { small = omega (arith, u, f); shallow = omega (arith, v, g) }) new_fine;
    }
