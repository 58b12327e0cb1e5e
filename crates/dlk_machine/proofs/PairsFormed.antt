-- The replacements of pairs that are read are well made, with renames before them or without.
use Rattle.std.proofs.Common.{◌≡◌, ℕ, ◌<◌, List, [], ◌∷◌, ◌++◌, ap, subst, sym, ◌∙◌}
use Rattle.std.specs.List.{flat_map}
use Rattle.std.proofs.lemmas.Grind.{flat_map-append}
use Rattle.std.proofs.lemmas.List.{append-nil, map-append}
use Rattle.std.proofs.lemmas.List.Elements.{All-nil, All-cons, All-append}
use Rattle.dlk_tree.specs.Trees.{WellMade}
use Rattle.dlk_tree.specs.declared.op.Sort.TheVariants.{Term, Formula, Program}
use Rattle.dlk_calculus.specs.Pairs.{Pair, AreWellMade}
use Rattle.dlk_grammar.specs.Lexemes.{Lexeme, Comma, Becomes}
use Rattle.dlk_grammar.specs.Grammar.{brace-items}
use Rattle.dlk_grammar.specs.Erased.{erase, ills}
use Rattle.dlk_grammar.specs.Substitutions.{PairPhrase, ReadsPair, ReadsPairs, pairs-one, pairs-more, ReadsSubstitution, subst-nothing, subst-pairs}
use Rattle.dlk_grammar.specs.Substitutions.{replacements, erase_pairs}
use Rattle.dlk_grammar.specs.Extras.{ExtraPhrase, ReadsExtra, extra-subst, extra-renames, extra-both}
use Rattle.dlk_machine.specs.Levels.{form_sort, top}
use Rattle.dlk_machine.specs.Pairs.{Right}
use Rattle.dlk_machine.proofs.Formed.{Each, each_parts, each_append, AreReal, IsBelow, AreBelow, IsReal, part_last, widen, none_left, none_right}
use Rattle.dlk_machine.proofs.Formed.{grown, grown_brace, made_from, GrownSome}
use Rattle.dlk_machine.proofs.PairItems.{RightText, right-formula, right-term, right-text, right-system, pair_parts}

-- what is known of the tree of a right side
grown_right : {w : Right} {r : List Lexeme} {p : PairPhrase} → RightText w r p → GrownSome r p.by
grown_right (right-formula d) = record { kind = Formula; grown = grown d }
grown_right (right-term d never) = record { kind = Term; grown = grown d }
grown_right (right-text {g = g} d) = record { kind = form_sort (top g); grown = grown d }
grown_right (right-system d) = record { kind = Program; grown = grown_brace (brace-items d) }

grown_pair : {s : List Lexeme} {p : PairPhrase} → ReadsPair s p → GrownSome s p.by
grown_pair {s} {p} d =
    let x = pair_parts d in
    let g = grown_right x.right_text in
    subst (λ (z : List Lexeme). GrownSome z p.by) (sym x.parts) (record { kind = g.kind; grown = widen (part_last x.front x.behind Becomes) g.grown })

-- the places of ill shape in the replacements
abbrev pub ills_of_pairs : List PairPhrase → List ℕ
ills_of_pairs l = flat_map ills (replacements l)

ills_more : (l : List PairPhrase) (p : PairPhrase) → ills_of_pairs (l ++ p ∷ []) ≡ ills_of_pairs l ++ ills p.by
ills_more l p =
    ap (flat_map ills) (map-append (λ (q : PairPhrase). q.by) l (p ∷ [])) ∙ flat_map-append ills (replacements l) (p.by ∷ [])
    ∙ ap (λ (ns : List ℕ). ills_of_pairs l ++ ns) (append-nil (ills p.by))

listed_below : {s : List Lexeme} {l : List PairPhrase} → ReadsPairs s l → (m : ℕ) → AreBelow m s → Each (λ n. n < m) (ills_of_pairs l)
listed_below (pairs-one {p = p} d) m h = rw (append-nil (ills p.by)) ((grown_pair d).grown.below m h)
listed_below (pairs-more {s = s} {r = r} {l = l} {p = p} ds d) m h =
    let w = each_parts (IsBelow m) s (Comma ∷ r) h in
    rw (ills_more l p) (each_append (λ n. n < m) (ills_of_pairs l) (ills p.by) (listed_below ds m w.0) ((grown_pair d).grown.below m w.1.1))

pub pairs_below : {s : List Lexeme} {l : List PairPhrase} → ReadsSubstitution s l → (m : ℕ) → AreBelow m s → Each (λ n. n < m) (ills_of_pairs l)
pairs_below subst-nothing m h = tt
pairs_below (subst-pairs d) m h = listed_below d m h

-- a replacement that is well made
abbrev IsMadePair : Pair → Type 0
IsMadePair p = WellMade p.by

abbrev erase_pair : PairPhrase → Pair
erase_pair p = record { sym = p.sym; by = erase p.by }

made_pair : {s : List Lexeme} {p : PairPhrase} → ReadsPair s p → AreReal s → ills p.by ≡ [] → AreWellMade (erase_pair p ∷ [])
made_pair {p = p} d h e = All-cons IsMadePair (erase_pair p) [] (made_from (grown_pair d).grown h e).well_made (All-nil IsMadePair)

listed_made : {s : List Lexeme} {l : List PairPhrase} → ReadsPairs s l → AreReal s → ills_of_pairs l ≡ [] → AreWellMade (erase_pairs l)
listed_made (pairs-one {p = p} d) h e = made_pair d h (sym (append-nil (ills p.by)) ∙ e)
listed_made (pairs-more {s = s} {r = r} {l = l} {p = p} ds d) h e =
    let w = each_parts IsReal s (Comma ∷ r) h in
    let n : ills_of_pairs l ++ ills p.by ≡ [] = sym (ills_more l p) ∙ e in
    rw (map-append erase_pair l (p ∷ []))
    (All-append IsMadePair (erase_pairs l) (erase_pair p ∷ []) (listed_made ds w.0 (none_left (ills_of_pairs l) (ills p.by) n))
    (made_pair d w.1.1 (none_right (ills_of_pairs l) (ills p.by) n)))

pub pairs_formed : {s : List Lexeme} {l : List PairPhrase} → ReadsSubstitution s l → AreReal s → ills_of_pairs l ≡ [] → AreWellMade (erase_pairs l)
pairs_formed subst-nothing h e = All-nil IsMadePair
pairs_formed (subst-pairs d) h e = listed_made d h e

pub extra_below : {s : List Lexeme} {e : ExtraPhrase} → ReadsExtra s e → (m : ℕ) → AreBelow m s → Each (λ n. n < m) (ills_of_pairs e.pairs)
extra_below (extra-subst d) m h = pairs_below d m h
extra_below (extra-renames d) m h = tt
extra_below (extra-both {s = s} {r = r} d ds) m h = listed_below ds m (each_parts (IsBelow m) s (Comma ∷ r) h).1.1

pub extra_formed : {s : List Lexeme} {e : ExtraPhrase} → ReadsExtra s e → AreReal s → ills_of_pairs e.pairs ≡ [] → AreWellMade (erase_pairs e.pairs)
extra_formed (extra-subst d) h n = pairs_formed d h n
extra_formed (extra-renames d) h n = All-nil IsMadePair
extra_formed (extra-both {s = s} {r = r} d ds) h n = listed_made ds (each_parts IsReal s (Comma ∷ r) h).1.1 n
