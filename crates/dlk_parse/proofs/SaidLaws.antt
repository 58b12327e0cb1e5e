-- From what tokens say to what is read of them.
use Rattle.std.proofs.Common.{◌≡◌, ℕ, ◌<◌, ◌≤◌, List, [], ◌∷◌, ◌++◌, length, get_or, take, drop, map, Some, refl, sym, ap, subst, ◌∙◌, arith, fold}
use Rattle.std.specs.Prelude.{All, flat_map, min}
use Rattle.std.proofs.lemmas.List.{length-map, length-append, map-append, take-map, take_at, drop_at}
use Rattle.std.proofs.lemmas.List.Elements.{All-nil, All-cons, All-head, All-tail, All-append, All-weaker}
use Rattle.std.proofs.lemmas.Option.{same_Some}
use Rattle.dlk_tree.specs.Trees.{Tree, WellMade, sort}
use Rattle.dlk_calculus.specs.Sequents.{Sequent as TreeSequent, IsFormula, IsSequent}
use Rattle.dlk_store.specs.declared.Id.{Id}
use Rattle.dlk_store.specs.Stores.{tree}
use Rattle.dlk_sequent.specs.Sequents.{sequent_at}
use Rattle.dlk_sequent.specs.declared.sequent.Sequent.{Sequent}
use Rattle.dlk_grammar.specs.declared.token.Token.{Token}
use Rattle.dlk_grammar.specs.declared.token.Dots.{Dots}
use Rattle.dlk_grammar.specs.declared.token.Dots.TheVariants.{Refused}
use Rattle.dlk_grammar.specs.declared.token.Form.{Form}
use Rattle.dlk_grammar.specs.RealTokens.{AreTokens}
use Rattle.dlk_grammar.specs.Lexemes.{Lexeme, lexemes}
use Rattle.dlk_grammar.specs.Phrases.{Phrase, Phrases}
use Rattle.dlk_grammar.specs.Grammar.{Nonterminal, Reads, Sides, Turned, ReadsSequent}
use Rattle.dlk_grammar.specs.Erased.{erase, erase_all, ills, lowest}
use Rattle.dlk_grammar.specs.Readings.{grammar, itself, phrases_in, both_sides, erase_sides, IsTree, IsTreeFault, IsSequentOf, IsSequentFault}
use Rattle.dlk_machine.proofs.Formed.{Each, formed}
use Rattle.dlk_machine.specs.Levels.{form_sort}
use Rattle.dlk_machine.proofs.ParseLaws.{one_sides_read}
use Rattle.dlk_machine.proofs.TextLaws.{least_below, one_grammar, form_ills_below, sequent_ills_below, tree_well_made, tree_not_ill, lexemes_real}
use Rattle.dlk_machine.proofs.TextLaws.{sequent_formulas}
use Rattle.dlk_parse.specs.Faults.{IsParseFaultOf}
use Rattle.dlk_lex.specs.Noted.{starts_of}
use Rattle.dlk_parse.specs.Limits.{AreWithinTokenLimits}
use Rattle.dlk_forms.specs.Said.{SaysCode, SaysSides, left_count}
use Rattle.dlk_parse.specs.Made.{IsWellMade, AreMade}
use Rattle.dlk_parse.specs.Said.{IsReadCode, AreReadSides, HasPlaces, IsWithin, IsCodeBeyond}
use Rattle.dlk_reader.specs.declared.code.Code.{Code}
use Rattle.dlk_parse.specs.declared.fault.ParseFault.{ParseFault}
use Rattle.dlk_forms.specs.declared.sides.SidesCode.{SidesCode}
use Rattle.dlk_parse.proofs.Nodes.{drop-map}
use Rattle.dlk_parse.proofs.PhraseParts.{count_is, erase_all_is}
use Rattle.dlk_parse.proofs.Reports.{beyond, faultless}

-- the least of numbers below a bound
pub least_among : (m place : ℕ) (ns : List ℕ) → Each (λ n. n < m) ns → lowest ns ≡ Some place → place < m
least_among m place [] h e = absurd cc
least_among m place (n ∷ ns) h e = subst (λ k. k < m) (same_Some (fold min n ns) place e) (least_below m n ns h.0 h.1)

pub among_starts : (tokens : List Token) (place : ℕ) → place < length tokens → place < length (starts_of tokens)
among_starts tokens place l = omega (arith, l, length-map tokens (λ (t : Token). t.at))

-- a tree
module _ (form : Form) (d : Dots) (tokens : List Token) (code : List Code) where
  pub tree_places : SaysCode (grammar form) itself d tokens code → HasPlaces code (starts_of tokens)
  tree_places s = record {
    phrases = itself s.said;
    code_is = s.code_is;
    below = λ place e. among_starts tokens place
        (least_among (length tokens) place (flat_map ills (itself s.said)) (form_ills_below form tokens s.said s.says.reads) e);
  }

  pub tree_beyond : AreWithinTokenLimits tokens → SaysCode (grammar form) itself d tokens code → (e : ParseFault) → IsCodeBeyond code (starts_of tokens) e →
      IsParseFaultOf (IsTreeFault form d tokens) e
  tree_beyond calm s e b = beyond (grammar form) itself (one_grammar form) d tokens calm s.said s.says e (b.of_phrases (itself s.said) s.code_is)

  pub tree_within : AreWithinTokenLimits tokens → SaysCode (grammar form) itself d tokens code → IsWithin code → IsReadCode (grammar form) itself d tokens code
  tree_within calm s w = record {
    said = s.said;
    says = s.says;
    code_is = s.code_is;
    no_fault = faultless (grammar form) itself (one_grammar form) d tokens calm s.said s.says (w.of_phrases (itself s.said) s.code_is);
  }

  pub tree_read : (s : IsReadCode (grammar form) itself d tokens code) → IsTree form d tokens (erase s.said)
  tree_read s = record { phrase = s.said; says = s.says; value_is = refl; no_fault = s.no_fault }

  pub tree_code_made : AreTokens tokens → IsReadCode (grammar form) itself d tokens code → IsWellMade code
  tree_code_made real s = record {
    phrases = itself s.said;
    code_is = s.code_is;
    well_made = All-cons (λ p. WellMade (erase p)) s.said [] (tree_well_made form d tokens (erase s.said) real (tree_read s))
        (All-nil (λ p. WellMade (erase p)));
  }

-- a sequent
module _ (tokens : List Token) (s : SidesCode) where
  pub sides_places : SaysSides tokens s → HasPlaces s.code.items (starts_of tokens)
  sides_places h = record {
    phrases = both_sides h.said;
    code_is = h.code_is;
    below = λ place e. among_starts tokens place
        (least_among (length tokens) place (flat_map ills (both_sides h.said)) (sequent_ills_below tokens h.said h.says.reads) e);
  }

  pub sides_beyond : AreWithinTokenLimits tokens → SaysSides tokens s → (e : ParseFault) → IsCodeBeyond s.code.items (starts_of tokens) e →
      IsParseFaultOf (IsSequentFault tokens) e
  sides_beyond calm h e b = beyond ReadsSequent both_sides one_sides_read Refused tokens calm h.said h.says e (b.of_phrases (both_sides h.said) h.code_is)

  pub sides_within : AreWithinTokenLimits tokens → SaysSides tokens s → IsWithin s.code.items → AreReadSides tokens s
  sides_within calm h w = record {
    said = h.said;
    says = h.says;
    code_is = h.code_is;
    left_is = h.left_is;
    no_fault = faultless ReadsSequent both_sides one_sides_read Refused tokens calm h.said h.says (w.of_phrases (both_sides h.said) h.code_is);
  }

-- the only id of ids of one tree
module _ {A B : Type 0} (f : A → B) where
  pub some_id : (xs : List A) (t : B) → map f xs ≡ t ∷ [] → 0 < length xs
  some_id xs t e = omega (arith, ap length e, length-map xs f)

  pub only_id : (xs : List A) (t : B) (d : A) → map f xs ≡ t ∷ [] → f (get_or xs 0 d) ≡ t
  only_id [] t d e = absurd cc
  only_id (x ∷ xs) t d e = cc

-- the sort of what was read
pub sort_read : (form : Form) (f : Nonterminal) → ((s : List Lexeme) (p : Phrase) → grammar form s p → Reads f s p) →
    (d : Dots) (tokens : List Token) (t : Tree) → AreTokens tokens → IsTree form d tokens t → sort t ≡ form_sort f
sort_read form f as_form d tokens t real a =
    sym (ap sort a.value_is) ∙ (formed (as_form (lexemes tokens) a.phrase a.says.reads) (lexemes_real 0 tokens real.real)
    (tree_not_ill form d tokens t a)).sort_is

-- the formulas of both sides
pub All-from_map : {A B : Type 0} (P : B → Type 0) (f : A → B) (xs : List A) → All P (map f xs) → All (λ x. P (f x)) xs
All-from_map P f [] h = All-nil (λ x. P (f x))
All-from_map P f (x ∷ xs) h = All-cons (λ x. P (f x)) x xs (All-head P (f x) (map f xs) h) (All-from_map P f xs (All-tail P (f x) (map f xs) h))

side_well_made : (l : Phrases) → All IsFormula (erase_all l) → All (λ p. WellMade (erase p)) (phrases_in l)
side_well_made l all =
    All-from_map WellMade erase (phrases_in l)
    (All-weaker IsFormula WellMade (λ t f. f.well_made) (map erase (phrases_in l)) (subst (All IsFormula) (erase_all_is l) all))

sides_well_made : (z : Sides) → IsSequent (erase_sides z) → All (λ p. WellMade (erase p)) (both_sides z)
sides_well_made (Turned l m) s = All-append (λ p. WellMade (erase p)) (phrases_in l) (phrases_in m) (side_well_made l s.ante) (side_well_made m s.succ)

-- the trees of a sequent's ids
split_sides : (z : Sides) (ts : List Tree) (n : ℕ) → ts ≡ map erase (both_sides z) → n ≡ left_count z →
    ◌≡◌ {A = TreeSequent} (erase_sides z) (record { ante = take n ts; succ = drop n ts })
split_sides (Turned l m) ts n e f =
    let parted : ts ≡ erase_all l ++ erase_all m = e ∙ map-append erase (phrases_in l) (phrases_in m)
    ∙ (λ i. sym (erase_all_is l) i ++ sym (erase_all_is m) i) in
    let long : length (erase_all l) ≡ n = ap length (erase_all_is l) ∙ length-map (phrases_in l) erase ∙ sym (count_is l) ∙ sym f in
    let left : erase_all l ≡ take n ts = sym (take_at (erase_all l) (erase_all m) n long) ∙ ap (take n) (sym parted) in
    let right : erase_all m ≡ drop n ts = sym (drop_at (erase_all l) (erase_all m) n long) ∙ ap (drop n) (sym parted) in
    λ i. record { ante = left i; succ = right i }

left_within : (z : Sides) → left_count z ≤ length (both_sides z)
left_within (Turned l m) = omega (arith, count_is l, length-append (phrases_in l) (phrases_in m))

module _ (tokens : List Token) (s : SidesCode) (h : AreReadSides tokens s) where
  sides_read : IsSequentOf tokens (erase_sides h.said)
  sides_read = record { phrase = h.said; says = h.says; value_is = refl; no_fault = h.no_fault }

  pub sides_made : AreTokens tokens → IsWellMade s.code.items
  sides_made real = record {
    phrases = both_sides h.said;
    code_is = h.code_is;
    well_made =
        sides_well_made h.said (sequent_formulas tokens (erase_sides h.said) real sides_read);
  }

  module _ (trees : List Tree) (ids : List Id) (made : AreMade s.code.items trees ids) where
    made_are : map (tree trees) ids ≡ map erase (both_sides h.said)
    made_are = made.of_phrases (both_sides h.said) h.code_is

    pub left_low : s.left ≤ length ids
    left_low = omega (arith, left_within h.said, h.left_is, ap length made_are, length-map ids (tree trees), length-map (both_sides h.said) erase)

    pub sequent_found : (z : Sequent) → z.ante ≡ take s.left ids → z.succ ≡ drop s.left ids → IsSequentOf tokens (sequent_at trees z)
    sequent_found z e f =
        let ante : take s.left (map (tree trees) ids) ≡ map (tree trees) z.ante = take-map (tree trees) s.left ids ∙ ap (map (tree trees)) (sym e) in
        let succ : drop s.left (map (tree trees) ids) ≡ map (tree trees) z.succ = drop-map (tree trees) s.left ids ∙ ap (map (tree trees)) (sym f) in
        subst (IsSequentOf tokens) (split_sides h.said (map (tree trees) ids) s.left made_are h.left_is ∙ (λ i. record { ante = ante i; succ = succ i }))
        sides_read
