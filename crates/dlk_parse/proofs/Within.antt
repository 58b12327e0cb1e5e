-- What measures say of the phrases that were measured.
use Rattle.std.proofs.Common.{◌≡◌, ℕ, zero, suc, ◌<◌, ◌≤◌, min, List, [], ◌∷◌, length, get_or, map, Option, Some, None, true, false, cond, refl, sym}
use Rattle.std.proofs.Common.{ap, ◌∙◌, arith, fold, inl, inr, lit<}
use Rattle.std.specs.Prelude.{All, nat_lt, flat_map, slice_get, ◌⊎◌}
use Rattle.std.proofs.lemmas.Bool.{cases_lt}
use Rattle.std.proofs.lemmas.Bool.Decides.{nat_tests}
use Rattle.std.proofs.lemmas.List.Elements.{All-nil, All-cons}
use Rattle.dlk_tree.specs.Trees.{Tree, size, depth}
use Rattle.dlk_grammar.specs.Phrases.{Phrase}
use Rattle.dlk_grammar.specs.Erased.{erase, ills, lowest}
use Rattle.dlk_calculus.specs.Limits.{most_nodes, greatest_depth}
use Rattle.dlk_grammar.specs.Readings.{FirstPast}
use Rattle.dlk_parse.specs.Measures.{measure, AreMeasures}
use Rattle.dlk_parse.specs.Measuring.{lesser}
use Rattle.dlk_parse.specs.Limits.{least_ill, past, IsAmong, KnowsWithin, KnowsBeyond}
use Rattle.dlk_parse.specs.Said.{HasPlaces}
use Rattle.dlk_reader.specs.declared.code.Code.{Code}
use Rattle.dlk_parse.specs.declared.measures.Measure.{Measure}
use Rattle.dlk_parse.specs.declared.fault.ParseFault.TheVariants as parse
use Rattle.dlk_parse.proofs.Measuring.{lowest-append, lesser_none, lesser_assoc}

ills_from : (ps : List Phrase) (o : Option ℕ) → fold lesser o (map (λ m. m.ill) (map measure ps)) ≡ lesser o (lowest (flat_map ills ps))
ills_from [] o = sym (lesser_none o)
ills_from (p ∷ ps) o = ills_from ps (lesser o (lowest (ills p))) ∙ lesser_assoc o (lowest (ills p)) (lowest (flat_map ills ps))
    ∙ ap (lesser o) (sym (lowest-append (ills p) (flat_map ills ps)))

-- the least place of ill shape is that of the phrases
pub least_ill_is : (ps : List Phrase) → least_ill (map measure ps) ≡ lowest (flat_map ills ps)
least_ill_is ps = ills_from ps None

-- numbers that stay at the greatest of 32 bits
module _ (f : Tree → ℕ) (limit : ℕ) (low : limit < 4294967295) where
  capped : List Tree → List ℕ
  capped ts = map (λ t. min (f t) 4294967295) ts

  over : (t : Tree) → limit < f t → nat_lt limit (min (f t) 4294967295) ≡ true
  over t h = grind (arith, nat_tests)

  under : (t : Tree) → f t ≤ limit → nat_lt limit (min (f t) 4294967295) ≡ false
  under t h = grind (arith, nat_tests)

  either : (t : Tree) → (limit < f t) ⊎ (f t ≤ limit)
  either t = cases_lt limit (f t)

  one_later : (t : Tree) (ts : List Tree) (n : ℕ) → f t ≤ limit → FirstPast f limit ts n → FirstPast f limit (t ∷ ts) n
  one_later t ts n h p = record {
    before = t ∷ p.before;
    tree = p.tree;
    behind = p.behind;
    trees_are = ap (λ (l : List Tree). t ∷ l) p.trees_are;
    past = p.past;
    first = All-cons (λ (u : Tree). f u ≤ limit) t p.before h p.first;
    number = p.number;
  }

  pub first_past : (ts : List Tree) (n : ℕ) → past limit (map (λ t. min (f t) 4294967295) ts) ≡ Some n → FirstPast f limit ts n
  first_past [] n e = absurd cc
  first_past (t ∷ ts) n e = elim (either t) [
    | inl h ↦
        let number : Some (min (f t) 4294967295) ≡ Some n =
        ap (λ b. cond b (Some (min (f t) 4294967295)) (past limit (map (λ t. min (f t) 4294967295) ts))) (sym (over t h)) ∙ e in
        record { before = []; tree = t; behind = ts; trees_are = refl; past = h; first = All-nil (λ (u : Tree). f u ≤ limit); number = cc }
    | inr h ↦
        one_later t ts n h (first_past ts n (ap (λ b. cond b (Some (min (f t) 4294967295)) (past limit (map (λ t. min (f t) 4294967295) ts)))
        (sym (under t h)) ∙ e))
  ]

  pub none_past : (ts : List Tree) → past limit (map (λ t. min (f t) 4294967295) ts) ≡ None → All (λ t. f t ≤ limit) ts
  none_past [] e = All-nil (λ (u : Tree). f u ≤ limit)
  none_past (t ∷ ts) e = elim (either t) [
    | inl h ↦
        let number : Some (min (f t) 4294967295) ≡ None =
        ap (λ b. cond b (Some (min (f t) 4294967295)) (past limit (map (λ t. min (f t) 4294967295) ts))) (sym (over t h)) ∙ e in
        absurd cc
    | inr h ↦
        All-cons (λ (u : Tree). f u ≤ limit) t ts h
        (none_past ts (ap (λ b. cond b (Some (min (f t) 4294967295)) (past limit (map (λ t. min (f t) 4294967295) ts))) (sym (under t h)) ∙ e))
  ]

sizes_are : (ps : List Phrase) → map (λ m. m.size) (map measure ps) ≡ map (λ t. min (size t) 4294967295) (map erase ps)
sizes_are [] = refl
sizes_are (p ∷ ps) = ap (λ ns. min (size (erase p)) 4294967295 ∷ ns) (sizes_are ps)

depths_are : (ps : List Phrase) → map (λ m. m.depth) (map measure ps) ≡ map (λ t. min (depth t) 4294967295) (map erase ps)
depths_are [] = refl
depths_are (p ∷ ps) = ap (λ ns. min (depth (erase p)) 4294967295 ∷ ns) (depths_are ps)

-- what the tests answer of measures, said of the phrases
module _ (ms : List Measure) where
  pub ill_is : (starts : List ℕ) (place at : ℕ) → least_ill ms ≡ Some place → slice_get starts place ≡ Some at → KnowsBeyond ms starts (parse.Shape at)
  ill_is starts place at e t = record { of_phrases = λ ps f. (place, sym (least_ill_is ps) ∙ ap least_ill (sym f) ∙ e, t) }

  module _ (fine : least_ill ms ≡ None) where
    shape : (ps : List Phrase) → ms ≡ map measure ps → lowest (flat_map ills ps) ≡ None
    shape ps f = sym (least_ill_is ps) ∙ ap least_ill (sym f) ∙ fine

    sizes : (ps : List Phrase) → ms ≡ map measure ps → (o : Option ℕ) → past most_nodes (map (λ m. m.size) ms) ≡ o →
        past most_nodes (map (λ t. min (size t) 4294967295) (map erase ps)) ≡ o
    sizes ps f o e = ap (past most_nodes) (sym (sizes_are ps)) ∙ ap (λ (l : List Measure). past most_nodes (map (λ m. m.size) l)) (sym f) ∙ e

    depths : (ps : List Phrase) → ms ≡ map measure ps → (o : Option ℕ) → past greatest_depth (map (λ m. m.depth) ms) ≡ o →
        past greatest_depth (map (λ t. min (depth t) 4294967295) (map erase ps)) ≡ o
    depths ps f o e = ap (past greatest_depth) (sym (depths_are ps)) ∙ ap (λ (l : List Measure). past greatest_depth (map (λ m. m.depth) l)) (sym f) ∙ e

    pub big_is : (starts : List ℕ) (n : ℕ) → past most_nodes (map (λ m. m.size) ms) ≡ Some n → KnowsBeyond ms starts (parse.TooBig n)
    big_is starts n e = record { of_phrases = λ ps f. (shape ps f, first_past size most_nodes (lit< tt) (map erase ps) n (sizes ps f (Some n) e)) }

    pub deep_is : (starts : List ℕ) (n : ℕ) → past most_nodes (map (λ m. m.size) ms) ≡ None → past greatest_depth (map (λ m. m.depth) ms) ≡ Some n →
        KnowsBeyond ms starts (parse.TooDeep n)
    deep_is starts n g e = record {
      of_phrases = λ ps f. (
        shape ps f,
        none_past size most_nodes (lit< tt) (map erase ps) (sizes ps f None g),
        first_past depth greatest_depth (lit< tt) (map erase ps) n (depths ps f (Some n) e),
      );
    }

    pub fine_is : past most_nodes (map (λ m. m.size) ms) ≡ None → past greatest_depth (map (λ m. m.depth) ms) ≡ None → KnowsWithin ms
    fine_is g e = record {
      of_phrases = λ ps f. record {
        shape = shape ps f;
        size = none_past size most_nodes (lit< tt) (map erase ps) (sizes ps f None g);
        depth = none_past depth greatest_depth (lit< tt) (map erase ps) (depths ps f None e);
      };
    }

pub among : (code : List Code) (starts : List ℕ) (ms : List Measure) → HasPlaces code starts → AreMeasures code ms → IsAmong ms starts
among code starts ms h m = record {
  below = λ place e. h.below place (sym (least_ill_is h.phrases) ∙ ap least_ill (sym (m.of_phrases h.phrases h.code_is)) ∙ e);
}

-- the start that an index reads
pub ill_at : (ms : List Measure) (starts : List ℕ) (place d : ℕ) → least_ill ms ≡ Some place → place < length starts →
    KnowsBeyond ms starts (parse.Shape (get_or starts place d))
ill_at ms starts place d e h = ill_is ms starts place (get_or starts place d) e (slice_get_is starts place d h)
  where
    slice_get_is : (xs : List ℕ) (i d : ℕ) → i < length xs → slice_get xs i ≡ Some (get_or xs i d)
    slice_get_is [] i d l = absurd (omega arith)
    slice_get_is (x ∷ xs) zero d l = refl
    slice_get_is (x ∷ xs) (suc i) d l = slice_get_is xs i d (omega arith)
