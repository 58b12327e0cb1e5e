-- The sides of a sequent are found number by number.
use Rattle.std.proofs.Common.{◌≡◌, ◌≢◌, ℕ, ◌==◌, true, false, IsTrue, List, [], ◌∷◌, ◌++◌, map, codes, refl, sym, ap, subst, ◌∙◌, append_assoc}
use Rattle.std.proofs.Common.{append-nil, ◌⊎◌, inl, inr}
use Rattle.std.specs.Prelude.{All}
use Rattle.std.specs.List.{list_all}
use Rattle.std.proofs.lemmas.Bool.{and_parts}
use Rattle.dlk_tree.specs.declared.op.Sort.TheVariants.{Formula as OfFormulas}
use Rattle.dlk_tree.specs.Trees.{Tree, sort}
use Rattle.dlk_calculus.specs.Sequents.{Sequent}
use Rattle.dlk_grammar.specs.Tokens.{is_digit}
use Rattle.dlk_lines.specs.Parts.{CutAt}
use Rattle.dlk_lines.specs.Spelled.{Names, NamesBefore, none_before, one_before, NamesEach, NamesSequent, sides}
use Rattle.dlk_lines.proofs.Cuts.{one_cut}
use Rattle.dlk_lines.proofs.Numbers.{number_parts}
use Rattle.dlk_nodes.specs.Sides.{Sides}
use Rattle.dlk_nodes.proofs.Numbered.{number_lacks_space, one_name, names_at, names_each_at, from_item, from_each}
use Rattle.dlk_nodes.specs.Tables.{nodes_at}
use Rattle.dlk_nodes.proofs.OpsCut.{one_numbers}
use Rattle.dlk_nodes.proofs.ReadNode.{named_known}
use Rattle.dlk_calculus.proofs.PlaceLaws.{At_All}
use Rattle.dlk_store.specs.declared.Id.{Id}
use Rattle.dlk_store.specs.Stores.{tree}
use Rattle.std.proofs.lemmas.List.Elements.{All-nil, All-cons}

abbrev head : List ℕ → ℕ
head [] = 0
head (c ∷ text) = c

no_digits : (digits more : List ℕ) → IsTrue (list_all is_digit digits) → head (digits ++ 32 ∷ more) ≡ 61 → ⊥
no_digits [] more all e = let clash : true ≡ false = ap (λ c. 32 == c) e in cc clash
no_digits (d ∷ digits) more all e =
    let clash : true ≡ false = sym (and_parts (is_digit d) (list_all is_digit digits) all).0 ∙ ap is_digit e in
    cc clash

module _ {A : Type 0} (items : List A) where
  -- ---- what a text of sides begins with

  -- the arrow, with nothing before it
  pub record ArrowFirst (text : List ℕ) (xs ys : List A) : Type 0 where
    pub rest : List ℕ
    pub text_is : text ≡ codes "==>" ++ rest
    pub none : xs ≡ []
    pub behind : NamesEach items rest ys

  -- or a number
  pub record NumberFirst (text : List ℕ) (xs ys : List A) : Type 0 where
    pub digits : List ℕ
    pub more : List ℕ
    pub first : A
    pub others : List A
    pub cut : CutAt text 32 digits more
    pub name : Names items digits first
    pub are : xs ≡ first ∷ others
    pub rest : Sides items more others ys

  pub begin : (text : List ℕ) (xs ys : List A) → Sides items text xs ys → ArrowFirst text xs ys ⊎ NumberFirst text xs ys
  begin text xs ys s = by_names s.left xs s.before s.text_is
    where
      by_names : (left : List ℕ) (us : List A) → NamesBefore items left us → text ≡ left ++ codes "==>" ++ s.right →
          ArrowFirst text us ys ⊎ NumberFirst text us ys
      by_names _ _ none_before e = inl (record { rest = s.right; text_is = e; none = refl; behind = s.behind })
      by_names _ _ (one_before {i} {text = l} {x} {xs = us} name before) e =
          let grouped : (i ++ codes " " ++ l) ++ codes "==>" ++ s.right ≡ i ++ 32 ∷ (l ++ codes "==>" ++ s.right) = simp append_assoc in
          inr (record {
            digits = i;
            more = l ++ codes "==>" ++ s.right;
            first = x;
            others = us;
            cut = record { text_is = e ∙ grouped; first = number_lacks_space i name.number name.is_number };
            name = name;
            are = refl;
            rest = record { left = l; right = s.right; text_is = refl; before = before; behind = s.behind };
          })

  pub no_left : (text rest : List ℕ) (ys : List A) → text ≡ codes "==>" ++ rest → NamesEach items rest ys → Sides items text [] ys
  no_left text rest ys e names = record { left = []; right = rest; text_is = e; before = none_before; behind = names }

  pub one_more_left : (text digits more : List ℕ) (x : A) (xs ys : List A) → CutAt text 32 digits more → Names items digits x → Sides items more xs ys →
      Sides items text (x ∷ xs) ys
  one_more_left text digits more x xs ys cut name s =
      let grouped : digits ++ 32 ∷ (s.left ++ codes "==>" ++ s.right) ≡ (digits ++ codes " " ++ s.left) ++ codes "==>" ++ s.right = simp append_assoc in
      record {
        left = digits ++ codes " " ++ s.left;
        right = s.right;
        text_is = cut.text_is ∙ ap (λ l. digits ++ 32 ∷ l) s.text_is ∙ grouped;
        before = one_before name s.before;
        behind = s.behind;
      }

  -- no number begins with the arrow
  pub no_arrow_number : (text rest digits more : List ℕ) (x : A) → text ≡ codes "==>" ++ rest → CutAt text 32 digits more → Names items digits x → ⊥
  no_arrow_number text rest digits more x e cut name =
      no_digits digits more (number_parts digits name.number name.is_number).digits (sym (ap head cut.text_is) ∙ ap head e)

  -- ---- the reader

  -- so far these were found, and what is left has the others
  pub record SidesSoFar (text left : List ℕ) (done : List A) : Type 0 where
    pub found : (xs ys : List A) → Sides items left xs ys → Sides items text (done ++ xs) ys
    pub needed : (xs ys : List A) → Sides items text xs ys → (us : List A) × Sides items left us ys

  pub no_sides_yet : (text : List ℕ) → SidesSoFar text text []
  no_sides_yet text = record { found = λ xs ys s. s; needed = λ xs ys s. (xs, s) }

  module _ (text left : List ℕ) (done : List A) (so_far : SidesSoFar text left done) where
    pub sides_found : (rest : List ℕ) (ys : List A) → left ≡ codes "==>" ++ rest → NamesEach items rest ys → Sides items text done ys
    sides_found rest ys e names = subst (λ l. Sides items text l ys) (append-nil done) (so_far.found [] ys (no_left left rest ys e names))

    pub behind_needed : (rest : List ℕ) → left ≡ codes "==>" ++ rest → ((ys : List A) → ¬ NamesEach items rest ys) → (xs ys : List A) →
        ¬ Sides items text xs ys
    behind_needed rest e none xs ys s = let w = so_far.needed xs ys s in elim (begin left w.0 ys w.1) [
      | inl arrow ↦
          let both : codes "==>" ++ arrow.rest ≡ codes "==>" ++ rest = sym arrow.text_is ∙ e in
          let same : arrow.rest ≡ rest = cc in
          none ys (subst (λ l. NamesEach items l ys) same arrow.behind)
      | inr number ↦ no_arrow_number left rest number.digits number.more number.first e number.cut number.name
    ]

    module _ (other : (rest : List ℕ) → left ≢ codes "==>" ++ rest) where
      pub space_wanted : ((front rest : List ℕ) → left ≢ front ++ 32 ∷ rest) → (xs ys : List A) → ¬ Sides items text xs ys
      space_wanted uncut xs ys s = let w = so_far.needed xs ys s in elim (begin left w.0 ys w.1) [
        | inl arrow ↦ other arrow.rest arrow.text_is
        | inr number ↦ uncut number.digits number.more number.cut.text_is
      ]

      module _ (digits more : List ℕ) (cut : CutAt left 32 digits more) where
        pub number_wanted : ((x : A) → ¬ Names items digits x) → (xs ys : List A) → ¬ Sides items text xs ys
        number_wanted none xs ys s = let w = so_far.needed xs ys s in elim (begin left w.0 ys w.1) [
          | inl arrow ↦ other arrow.rest arrow.text_is
          | inr number ↦
              let same = one_cut left 32 number.digits digits number.more more number.cut cut in
              none number.first (subst (λ d. Names items d number.first) same.0 number.name)
        ]

        pub one_side_more : (x : A) → Names items digits x → SidesSoFar text more (done ++ x ∷ [])
        one_side_more x name = record {
          found = λ xs ys s.
              subst (λ l. Sides items text l ys) (sym (append_assoc done (x ∷ []) xs))
              (so_far.found (x ∷ xs) ys (one_more_left left digits more x xs ys cut name s));
          needed = λ xs ys s. let w = so_far.needed xs ys s in elim (begin left w.0 ys w.1) [
            | inl arrow ↦ absurd (other arrow.rest arrow.text_is)
            | inr number ↦
                let same = one_cut left 32 number.digits digits number.more more number.cut cut in
                (number.others, subst (λ l. Sides items l number.others ys) same.1 number.rest)
          ];
        }

  -- ---- a text has one pair of sides

  pub one_sides : (xs ys us vs : List A) (text : List ℕ) → Sides items text xs ys → Sides items text us vs → (xs ≡ us) × (ys ≡ vs)
  one_sides [] ys us vs text a b = by_cases (begin text [] ys a) (begin text us vs b)
    where
      by_cases : ArrowFirst text [] ys ⊎ NumberFirst text [] ys → ArrowFirst text us vs ⊎ NumberFirst text us vs → ([] ≡ us) × (ys ≡ vs)
      by_cases (inl p) (inl q) =
          let both : codes "==>" ++ p.rest ≡ codes "==>" ++ q.rest = sym p.text_is ∙ q.text_is in
          let same : p.rest ≡ q.rest = cc in
          (sym q.none, one_numbers items q.rest ys vs (subst (λ l. NamesEach items l ys) same p.behind) q.behind)
      by_cases (inl p) (inr q) = absurd (no_arrow_number text p.rest q.digits q.more q.first p.text_is q.cut q.name)
      by_cases (inr p) q = absurd (let e = p.are in cc e)
  one_sides (x ∷ xs) ys us vs text a b =
      by_cases (begin text (x ∷ xs) ys a) (begin text us vs b) (λ us vs text a b. one_sides xs ys us vs text a b)
    where
      by_cases : ArrowFirst text (x ∷ xs) ys ⊎ NumberFirst text (x ∷ xs) ys → ArrowFirst text us vs ⊎ NumberFirst text us vs →
          ((us vs : List A) (text : List ℕ) → Sides items text xs ys → Sides items text us vs → (xs ≡ us) × (ys ≡ vs)) → (x ∷ xs ≡ us) × (ys ≡ vs)
      by_cases (inl p) q again = absurd (let e = p.none in cc e)
      by_cases (inr p) (inl q) again = absurd (no_arrow_number text q.rest p.digits p.more p.first q.text_is p.cut p.name)
      by_cases (inr p) (inr q) again =
          let same = one_cut text 32 p.digits q.digits p.more q.more p.cut q.cut in
          let first = one_name items q.digits p.first q.first (subst (λ d. Names items d p.first) same.0 p.name) q.name in
          let tail : xs ≡ p.others = let e = p.are in cc in
          let rest = again q.others vs q.more
          (subst (λ l. Sides items q.more l ys) (sym tail) (subst (λ l. Sides items l p.others ys) same.1 p.rest)) q.rest in
          (p.are ∙ (λ i. first i ∷ (sym tail ∙ rest.0) i) ∙ sym q.are, rest.1)

-- ---- items and what they stand for

module _ {A B : Type 0} (f : A → B) (items : List A) where
  before_at : (text : List ℕ) (xs : List A) → NamesBefore items text xs → NamesBefore (map f items) text (map f xs)
  before_at _ _ none_before = none_before
  before_at _ _ (one_before {i} {text} {x} {xs} name others) = one_before (names_at f items i x name) (before_at text xs others)

  pub sides_at : (text : List ℕ) (xs ys : List A) → Sides items text xs ys → Sides (map f items) text (map f xs) (map f ys)
  sides_at text xs ys s = record {
    left = s.left;
    right = s.right;
    text_is = s.text_is;
    before = before_at s.left xs s.before;
    behind = names_each_at f items s.right ys s.behind;
  }

  record FromBefore (text : List ℕ) (us : List B) : Type 0 where
    pub all : List A
    pub names : NamesBefore items text all
    pub are : us ≡ map f all

  from_before : (text : List ℕ) (us : List B) → NamesBefore (map f items) text us → FromBefore text us
  from_before _ _ none_before = record { all = []; names = none_before; are = refl }
  from_before _ _ (one_before {i} {text} {x = u} {xs = us} name others) =
      let first = from_item f items i u name in
      let more = from_before text us others in
      record { all = first.item ∷ more.all; names = one_before first.names more.names; are = λ t. first.is t ∷ more.are t }

  pub record FromSides (text : List ℕ) (us vs : List B) : Type 0 where
    pub xs : List A
    pub ys : List A
    pub sides : Sides items text xs ys
    pub left_are : us ≡ map f xs
    pub right_are : vs ≡ map f ys

  pub from_sides : (text : List ℕ) (us vs : List B) → Sides (map f items) text us vs → FromSides text us vs
  from_sides text us vs s =
      let before = from_before s.left us s.before in
      let behind = from_each f items s.right vs s.behind in
      record {
        xs = before.all;
        ys = behind.all;
        sides = record { left = s.left; right = s.right; text_is = s.text_is; before = before.names; behind = behind.names };
        left_are = before.are;
        right_are = behind.are;
      }

-- ---- sequents

module _ (nodes : List Tree) where
  abbrev pub AreFormulas : List Tree → Type 0
  AreFormulas ts = All (λ t. sort t ≡ OfFormulas) ts

  pub record SequentSides (text : List ℕ) (s : Sequent) : Type 0 where
    pub sides : Sides nodes text s.ante s.succ
    pub ante : AreFormulas s.ante
    pub succ : AreFormulas s.succ

  pub sequent_sides : (text : List ℕ) (s : Sequent) → NamesSequent nodes text s → SequentSides text s
  sequent_sides _ _ (sides {left} {right} {s} before each a b) = record {
    sides = record { left = left; right = right; text_is = refl; before = before; behind = each };
    ante = a;
    succ = b;
  }

  pub sides_sequent : (text : List ℕ) (s : Sequent) → SequentSides text s → NamesSequent nodes text s
  sides_sequent text s w = subst (λ l. NamesSequent nodes l s) (sym w.sides.text_is) (sides w.sides.before w.sides.behind w.ante w.succ)

-- ---- ids and their trees

pub none_named : {A B : Type 0} (f : A → B) (items : List A) (text : List ℕ) → ((x : A) → ¬ Names items text x) → (y : B) → ¬ Names (map f items) text y
none_named f items text none y name = let w = from_item f items text y name in none w.item w.names

pub named_is : {A : Type 0} (P : A → Type 0) (items : List A) (text : List ℕ) (x : A) → All P items → Names items text x → P x
named_is P items text x all name = At_All P items name.number x all name.there

before_known : {A : Type 0} (P : A → Type 0) (items : List A) (text : List ℕ) (xs : List A) → All P items → NamesBefore items text xs → All P xs
before_known P items _ _ all none_before = All-nil P
before_known P items _ _ all (one_before {i} {text} {x} {xs} name others) =
    All-cons P x xs (At_All P items name.number x all name.there) (before_known P items text xs all others)

pub sides_known : {A : Type 0} (P : A → Type 0) (items : List A) (text : List ℕ) (xs ys : List A) → All P items → Sides items text xs ys → All P xs × All P ys
sides_known P items text xs ys all s = (before_known P items s.left xs all s.before, named_known P items s.right ys all s.behind)

module _ (trees : List Tree) (table : List Id) (text : List ℕ) where
  pub sides_wanted : ((xs ys : List Id) → ¬ Sides table text xs ys) → (s : Sequent) → ¬ NamesSequent (nodes_at trees table) text s
  sides_wanted none s is =
      let w = from_sides (tree trees) table text s.ante s.succ (sequent_sides (nodes_at trees table) text s is).sides in
      none w.xs w.ys w.sides

  module _ (xs ys : List Id) (found : Sides table text xs ys) where
    its_sides : (s : Sequent) → NamesSequent (nodes_at trees table) text s →
        AreFormulas (nodes_at trees table) (nodes_at trees xs) × AreFormulas (nodes_at trees table) (nodes_at trees ys)
    its_sides s is =
        let nodes = nodes_at trees table in
        let w = sequent_sides nodes text s is in
        let same = one_sides nodes s.ante s.succ (nodes_at trees xs) (nodes_at trees ys) text w.sides (sides_at (tree trees) table text xs ys found) in
        (subst (AreFormulas nodes) same.0 w.ante, subst (AreFormulas nodes) same.1 w.succ)

    pub ante_wanted : (All (λ t. sort t ≡ OfFormulas) (nodes_at trees xs) → ⊥) → (s : Sequent) → ¬ NamesSequent (nodes_at trees table) text s
    ante_wanted none s is = none (its_sides s is).0

    pub succ_wanted : (All (λ t. sort t ≡ OfFormulas) (nodes_at trees ys) → ⊥) → (s : Sequent) → ¬ NamesSequent (nodes_at trees table) text s
    succ_wanted none s is = none (its_sides s is).1

    pub sequent_is : All (λ t. sort t ≡ OfFormulas) (nodes_at trees xs) → All (λ t. sort t ≡ OfFormulas) (nodes_at trees ys) →
        NamesSequent (nodes_at trees table) text (record { ante = nodes_at trees xs; succ = nodes_at trees ys })
    sequent_is a b =
        sides_sequent (nodes_at trees table) text (record { ante = nodes_at trees xs; succ = nodes_at trees ys })
        (record { sides = sides_at (tree trees) table text xs ys found; ante = a; succ = b })
