-- With the names and the pairs with which a key matches a target, the key becomes the target, or nothing.
use Rattle.std.proofs.Common.{◌≡◌, ◌∙◌, refl, sym, ap, subst, ℕ, List, [], ◌∷◌, ◌++◌, map, append-nil, false, not, Some}
use Rattle.std.specs.Prelude.{IsTrue}
use Rattle.std.specs.List.{list_any}
use Rattle.std.proofs.lemmas.Bool.{or_parts}
use Rattle.dlk_tree.specs.declared.op.Var.{Var}
use Rattle.dlk_tree.specs.declared.op.Sym.{Sym}
use Rattle.dlk_tree.specs.declared.op.Kind.TheVariants.{Func, Pred, Prog}
use Rattle.dlk_tree.specs.declared.op.OdeItem.{OdeItem}
use Rattle.dlk_tree.specs.declared.op.Op.{Op}
use Rattle.dlk_tree.specs.declared.op.Op.TheVariants as Op'
use Rattle.dlk_tree.specs.Table.{Fits}
use Rattle.dlk_tree.specs.Trees.{Tree, node, Forest, no_kids, kid, forest, trees_in, sorts, WellMade, AllWellMade}
use Rattle.dlk_tree.specs.Occurs.{any_has}
use Rattle.dlk_tree.specs.Named.{any_item_name}
use Rattle.dlk_calculus.specs.Kids.{last}
use Rattle.dlk_calculus.specs.Pairs.{Pair, Extra, replacement, IsWellFormed}
use Rattle.dlk_calculus.specs.Plug.{Plug}
use Rattle.dlk_calculus.specs.Rename.{swap_name, swap_sym, swap_item, swap_op, swap_all}
use Rattle.dlk_calculus.specs.Subst.{Replaced, SubstAt, Subst, SubstAll, Member, Equation, members_for, new_members, items_of, kids_of}
use Rattle.dlk_match.specs.Abstract.{abstracted}
use Rattle.dlk_match.specs.Matching.{is_own, GetsName, GetsReplacement, Over, IsAppliedTo, Application, of_nothing, of_variable, system_of}
use Rattle.dlk_match.specs.Matching.{TakeMembers, constant, equation, equation_first, equation_last, two_constants, SystemMatches}
use Rattle.dlk_match.specs.Matching.{MatchesAt, Matches, MatchesAll}
use Rattle.dlk_match.specs.Matching.{AreGiven, AreApart, Match, renamed_taboo, renamed_symbol, renamed_pairs, exchanged}
use Rattle.dlk_match.specs.Instances.{has_other_name, HasOwnNames}
use Rattle.dlk_match.proofs.Targets.{IsTarget, AreTargets, target_kids, target_first, target_rest, plug_plain}
use Rattle.dlk_match.proofs.Plugged.{plugged_back}
use Rattle.dlk_match.proofs.Turns.{in_turn, unchanged, carried, exchanged_node, exchanged_none, exchanged_kid}
use Rattle.dlk_match.proofs.AtOnce.{IsOwnTaboo, not_not, renamed_item, taboo_named, name_at_once, leaf_at_once, symbol_at_once, items_at_once, no_own_taboo}
use Rattle.dlk_match.proofs.Replacing.{AreUnlike, well_formed_unlike, renamed_replacement}
use Rattle.dlk_match.proofs.Growing.{Grows, grows_same, grows_on, gets_name, gets_replacement, grows, all_grow}
use Rattle.dlk_match.proofs.SystemsBack.{members_back, items_back, kids_back, last_side, left_targets}

-- a variable, which a substitution leaves alone
variable_stays : (pairs : List Pair) (v : Var) (news : Forest) → SubstAll pairs (kid (node (Op'.Variable v) no_kids) no_kids) news →
    news ≡ kid (node (Op'.Variable v) no_kids) no_kids
variable_stays pairs v no_kids q = absurd q
variable_stays pairs v (kid u (kid w ws)) q = absurd q.1
variable_stays pairs v (kid u no_kids) q = ap (λ t. kid t no_kids) (go q.0.0 q.0.1 q.0.2.1)
  where
    go : (new : Forest) → SubstAll pairs no_kids new → u ≡ node (Op'.Variable v) new → u ≡ node (Op'.Variable v) no_kids
    go no_kids p e = e
    go (kid t ts) p e = absurd p

-- of no kids none are made, and of more a first and the rest
none_left : (pairs : List Pair) (ts : Forest) → SubstAll pairs no_kids ts → ts ≡ no_kids
none_left pairs no_kids p = refl
none_left pairs (kid t ts) p = absurd p

kid_back : (pairs : List Pair) (key : Tree) (keys ts : Forest) (e : Tree) (es : Forest) → ((u : Tree) → Subst pairs key u → u ≡ e) →
    ((us : Forest) → SubstAll pairs keys us → us ≡ es) → SubstAll pairs (kid key keys) ts → ts ≡ kid e es
kid_back pairs key keys no_kids e es first rest p = absurd p
kid_back pairs key keys (kid t ts) e es first rest p = let a = first t p.0 in let b = rest ts p.1 in λ i. kid (a i) (b i)

module _ (own : List (List ℕ)) (found : Extra) (given : AreGiven own found.renames) (apart : AreApart own found.renames)
    (unlike : AreUnlike (renamed_pairs found.renames found.pairs)) where
  abbrev pairs : List Pair
  pairs = renamed_pairs found.renames found.pairs

  gives_name : (x y : List ℕ) (old new : Extra) → IsTrue (is_own own x) → GetsName x y old new → Grows own new found → renamed_taboo found.renames x ≡ y
  gives_name x y old new is g grown = taboo_named found.renames x y (grown.names x y (gets_name own x y old new is g).1)

  gives_replacement : (s : Sym) (e : Tree) (old new : Extra) → GetsReplacement s e old new → Grows own new found →
      replacement pairs (renamed_symbol found.renames s) ≡ Some e
  gives_replacement s e old new g grown =
      renamed_replacement found.renames found.pairs s e unlike (grown.replacements s e (gets_replacement own s e old new g).1)

  -- ---- systems

  -- a constant gives way to the members that it took
  constant_back : (s : Sym) (ms rest : List Member) → replacement pairs (renamed_symbol found.renames s) ≡ Some (system_of ms) →
      members_for (renamed_symbol found.renames s) (replacement pairs (renamed_symbol found.renames s)) ++ rest ≡ ms ++ rest
  constant_back s ms rest e =
      ap (λ o. members_for (renamed_symbol found.renames s) o ++ rest) e ∙ ap (λ ns. ns ++ rest) (members_back ms (node Op'.True no_kids))

  taken_back : {items : List OdeItem} {ms : List Member} {old new : Extra} {sides : List Tree} → TakeMembers items ms old new sides →
      list_any (any_item_name (λ x. not (is_own own x))) items ≡ false → Grows own new found → (d : Tree) →
      new_members pairs (map (renamed_item found.renames) items) (forest (sides ++ d ∷ [])) ≡ ms
  taken_back (constant {s = s} {ms = ms} {old = old} {new = new} g) is grown d =
      constant_back s ms [] (gives_replacement s (system_of ms) old new g grown) ∙ append-nil ms
  taken_back (equation {x = x} {y = y} {e = e} {old = old} {new = new} g) is grown d =
      ap (λ n. Equation n e ∷ []) (gives_name x y old new (not_not _ (or_parts _ _ is).0) g grown)
  taken_back (equation_first {x = x} {y = y} {e = e} {s = s} {m = m} {ms = ms} {old = old} {new = new} mid g h) is grown d =
      let on = grows_on (gets_replacement own s (system_of (m ∷ ms)) mid new h).0 grown in
      let name = gives_name x y old mid (not_not _ (or_parts _ _ is).0) g on in
      let rest = constant_back s (m ∷ ms) [] (gives_replacement s (system_of (m ∷ ms)) mid new h grown) ∙ append-nil (m ∷ ms) in
      λ i. Equation (name i) e ∷ rest i
  taken_back (equation_last {s = s} {x = x} {e = e} {old = old} {new = new} y m ms mid all g h) is grown d =
      let own_name = not_not _ (or_parts _ _ (or_parts _ _ is).1).0 in
      let on = grows_on (gets_name own x y mid new own_name h).0 grown in
      constant_back s (m ∷ ms) _ (gives_replacement s (system_of (m ∷ ms)) old mid g on)
      ∙ ap (λ n. (m ∷ ms) ++ Equation n e ∷ []) (gives_name x y mid new own_name h grown) ∙ sym all
  taken_back (two_constants {s = s} {t = t} {m = m} {n = n} {ms = ms} {old = old} {new = new} mid g h) is grown d =
      let on = grows_on (gets_replacement own t (system_of (n ∷ ms)) mid new h).0 grown in
      constant_back s (m ∷ []) _ (gives_replacement s (system_of (m ∷ [])) old mid g on)
      ∙ ap (λ ns. m ∷ ns) (constant_back t (n ∷ ms) [] (gives_replacement t (system_of (n ∷ ms)) mid new h grown) ∙ append-nil (n ∷ ms))

  -- ---- operators

  -- the operator of a key over kids, of which the new ones are made; they are the target's where the kids match
  module _ (kids news : Forest) (e t : Tree) (Kids : Forest → Extra → Extra → Type 0) (old new : Extra) (target : IsTarget e)
      (rest : (es : Forest) (mid : Extra) → Kids es mid new → Grows own mid new × (AreTargets es → news ≡ es)) (grown : Grows own new found) where
    over_back : (from to : Op) (mid : Extra) → in_turn swap_op found.renames from ≡ to → ((o : Forest) → SubstAt pairs to o news t → t ≡ node to news) →
        Over to e Kids mid new → SubstAt pairs (in_turn swap_op found.renames from) (in_turn swap_all found.renames kids) news t → t ≡ e
    over_back from to mid same stays over p =
        stays _ (subst (λ o. SubstAt pairs o (in_turn swap_all found.renames kids) news t) same p)
        ∙ ap (node to) ((rest over.0 mid over.2).1 (target_kids to over.0 (subst IsTarget over.1 target))) ∙ sym over.1

    named_back : (make : List ℕ → Op) (x : List ℕ) → not (is_own own x) ≡ false → ((a b z : List ℕ) → swap_op a b (make z) ≡ make (swap_name a b z)) →
        ((y : List ℕ) (o : Forest) → SubstAt pairs (make y) o news t → t ≡ node (make y) news) →
        (y : List ℕ) × (mid : Extra) × GetsName x y old mid × Over (make y) e Kids mid new →
        SubstAt pairs (in_turn swap_op found.renames (make x)) (in_turn swap_all found.renames kids) news t → t ≡ e
    named_back make x is swapped stays m p =
        let on = grows_on (rest m.3.0 m.1 m.3.2).0 grown in
        let name = name_at_once own found.renames x given apart (not_not _ is) ∙ gives_name x m.0 old m.1 (not_not _ is) m.2 on in
        over_back (make x) (make m.0) m.1 (carried make swap_name swap_op swapped found.renames x ∙ ap make name) (stays m.0) m.3 p

    -- the operator of a symbol becomes that of the renamed one
    symbol_becomes : (make : Sym → Op) (s : Sym) → IsOwnTaboo own s.taboo → ((a b : List ℕ) (z : Sym) → swap_op a b (make z) ≡ make (swap_sym a b z)) →
        SubstAt pairs (in_turn swap_op found.renames (make s)) (in_turn swap_all found.renames kids) news t →
        SubstAt pairs (make (renamed_symbol found.renames s)) (in_turn swap_all found.renames kids) news t
    symbol_becomes make s is swapped p =
        subst (λ o. SubstAt pairs o (in_turn swap_all found.renames kids) news t)
        (carried make swap_sym swap_op swapped found.renames s ∙ ap make (symbol_at_once own found.renames given apart s is)) p

    replaced_back : (s : Sym) (Without : Type 0) → GetsReplacement s e old new →
        Replaced (replacement pairs (renamed_symbol found.renames s)) (λ r. t ≡ r) Without → t ≡ e
    replaced_back s Without g p = subst (λ o. Replaced o (λ r. t ≡ r) Without) (gives_replacement s e old new g grown) p

    variable_back : (s : Sym) (Without : Type 0) → any_has (has_other_name own) kids ≡ false → SubstAll pairs (in_turn swap_all found.renames kids) news →
        IsAppliedTo s kids e old new → Replaced (replacement pairs (renamed_symbol found.renames s)) (λ r. Plug (trees_in news) r t) Without → t ≡ e
    variable_back s Without is q a p =
        let w : Var = record { name = a.y; primed = a.v.primed } in
        let own_name : not (is_own own a.v.name) ≡ false =
        (or_parts _ _ (or_parts _ _ (subst (λ ks. any_has (has_other_name own) ks ≡ false) a.kids_are is)).0).0 in
        let on = grows_on (gets_replacement own s (abstracted w e) old new a.replaced).0 grown in
        let name = taboo_named found.renames a.v.name a.y (on.names a.v.name a.y a.name_is) in
        let leaf = leaf_at_once own found.renames given apart a.v (not_not _ own_name)
        ∙ ap (λ n. node (Op'.Variable (record { name = n; primed = a.v.primed })) no_kids) name in
        let none = exchanged_none found.renames in
        let became = ap (in_turn swap_all found.renames) a.kids_are ∙ exchanged_kid found.renames (node (Op'.Variable a.v) no_kids) no_kids
        ∙ (λ i. kid (leaf i) (none i)) in
        let same = variable_stays pairs w news (subst (λ ks. SubstAll pairs ks news) became q) in
        let plugged = subst (λ o. Replaced o (λ r. Plug (trees_in news) r t) Without) (gives_replacement s (abstracted w e) old new a.replaced grown) p in
        plugged_back w e t target (subst (λ ns. Plug (trees_in ns) (abstracted w e) t) same plugged)

    applied_back : (s : Sym) (Without : Type 0) → any_has (has_other_name own) kids ≡ false → SubstAll pairs (in_turn swap_all found.renames kids) news →
        Application s kids e old new → Replaced (replacement pairs (renamed_symbol found.renames s)) (λ r. Plug (trees_in news) r t) Without → t ≡ e
    applied_back s Without is q (of_nothing k g) p =
        plug_plain (trees_in news) e t target.1
        (subst (λ o. Replaced o (λ r. Plug (trees_in news) r t) Without) (gives_replacement s e old new g grown) p)
    applied_back s Without is q (of_variable a) p = variable_back s Without is q a p

    system_back : (items : List OdeItem) → list_any (any_item_name (λ x. not (is_own own x))) items ≡ false → SystemMatches items e Kids old new →
        SubstAt pairs (in_turn swap_op found.renames (Op'.System items)) (in_turn swap_all found.renames kids) news t → t ≡ e
    system_back items is m p =
        let whole = subst IsTarget m.target_is target in
        let left = left_targets m.target_items m.target_kids (target_kids (Op'.System m.target_items) m.target_kids whole) m.taken in
        let under = rest (forest (m.sides ++ last m.target_kids ∷ [])) m.mid m.kids in
        let made = under.1 left in
        let became = carried Op'.System (λ x y. map (swap_item x y)) swap_op (λ x y z. refl) found.renames items
        ∙ ap Op'.System (items_at_once own found.renames given apart items is) in
        let q = subst (λ o. SubstAt pairs o (in_turn swap_all found.renames kids) news t) became p in
        let taken = ap (new_members pairs (map (renamed_item found.renames) items)) made
        ∙ taken_back m.taken is (grows_on under.0 grown) (last m.target_kids) in
        let domain = ap last made ∙ last_side m.sides (last m.target_kids) in
        let new_items = ap items_of taken ∙ items_back m.target_items m.target_kids in
        let new_kids = (λ i. kids_of (taken i) (domain i)) ∙ kids_back m.target_items m.target_kids whole.0.0.kids_fit in
        q.1 ∙ (λ i. node (Op'.System (new_items i)) (new_kids i)) ∙ sym m.target_is

    back_at : (op : Op) → Fits op (sorts kids) → has_other_name own op ≡ false → any_has (has_other_name own) kids ≡ false →
        MatchesAt op kids e Kids old new → SubstAll pairs (in_turn swap_all found.renames kids) news →
        SubstAt pairs (in_turn swap_op found.renames op) (in_turn swap_all found.renames kids) news t → t ≡ e
    back_at (Op'.Variable v) fits is are m q p =
        named_back (λ y. Op'.Variable (record { name = y; primed = v.primed })) v.name is (λ a b z. refl) (λ y o h. h.1) m p
    back_at (Op'.UnitFun s) fits is are m q p = replaced_back s _ m (symbol_becomes Op'.UnitFun s is (λ a b z. refl) p)
    back_at (Op'.UnitPred s) fits is are m q p = replaced_back s _ m (symbol_becomes Op'.UnitPred s is (λ a b z. refl) p)
    back_at (Op'.Const s) fits is are m q p =
        replaced_back s _ m (symbol_becomes Op'.Const s (no_own_taboo own Prog s refl fits.parts_fit) (λ a b z. refl) p)
    back_at (Op'.Apply s) fits is are m q p =
        applied_back s _ are q m (symbol_becomes Op'.Apply s (no_own_taboo own Func s refl fits.parts_fit) (λ a b z. refl) p)
    back_at (Op'.Holds s) fits is are m q p =
        applied_back s _ are q m (symbol_becomes Op'.Holds s (no_own_taboo own Pred s refl fits.parts_fit) (λ a b z. refl) p)
    back_at (Op'.Predicational s) fits is are m q p = absurd m
    back_at (Op'.Forall x) fits is are m q p = named_back Op'.Forall x is (λ a b z. refl) (λ y o h. h.1) m p
    back_at (Op'.Exists x) fits is are m q p = named_back Op'.Exists x is (λ a b z. refl) (λ y o h. h.1) m p
    back_at (Op'.Assign v) fits is are m q p =
        named_back (λ y. Op'.Assign (record { name = y; primed = v.primed })) v.name is (λ a b z. refl) (λ y o h. h.1) m p
    back_at (Op'.Any x) fits is are m q p = named_back Op'.Any x is (λ a b z. refl) (λ y o h. h.1) m p
    back_at (Op'.System items) fits is are m q p = system_back items is m p
    back_at op fits is are m q p = over_back op op old (unchanged swap_op op (λ a b. refl) found.renames) (λ o h. h.1) m p

  mutual
    back : (key e t : Tree) (old new : Extra) → HasOwnNames own key → WellMade key → IsTarget e → Matches key e old new → Grows own new found →
        Subst pairs (exchanged found.renames key) t → t ≡ e
    back (node op kids) e t old new is made target m grown p =
        let parts = or_parts _ _ is in
        let q = subst (λ k. Subst pairs k t) (exchanged_node found.renames op kids) p in
        back_at kids q.0 e t (MatchesAll kids) old new target
        (λ es mid h. (all_grow own kids es mid new parts.1 h, λ ts. all_back kids es q.0 mid new parts.1 made.1 ts h grown q.1))
        grown op made.0 parts.0 parts.1 m q.1 q.2

    all_back : (keys es ts : Forest) (old new : Extra) → any_has (has_other_name own) keys ≡ false → AllWellMade keys → AreTargets es →
        MatchesAll keys es old new → Grows own new found → SubstAll pairs (in_turn swap_all found.renames keys) ts → ts ≡ es
    all_back no_kids no_kids ts old new is made targets m grown p = none_left pairs ts (subst (λ ks. SubstAll pairs ks ts) (exchanged_none found.renames) p)
    all_back no_kids (kid e es) ts old new is made targets m grown p = absurd m
    all_back (kid key keys) no_kids ts old new is made targets m grown p = absurd m
    all_back (kid key keys) (kid e es) ts old new is made targets m grown p =
        let parts = or_parts _ _ is in
        let on = grows_on (all_grow own keys es m.0 new parts.1 m.2) grown in
        kid_back pairs (exchanged found.renames key) (in_turn swap_all found.renames keys) ts e es
        (λ u h. back key e u old m.0 parts.0 made.0 (target_first e es targets) m.1 on h)
        (λ us h. all_back keys es us m.0 new parts.1 made.1 (target_rest e es targets) m.2 grown h)
        (subst (λ ks. SubstAll pairs ks ts) (exchanged_kid found.renames key keys) p)

pub match_gives_target : (own : List (List ℕ)) (key target : Tree) (given extra : Extra) (t : Tree) → HasOwnNames own key → WellMade key → IsTarget target →
    Match key own target given extra → IsWellFormed extra.pairs → Subst extra.pairs (exchanged extra.renames key) t → t ≡ target
match_gives_target own key target given extra t is made whole m well p =
    let names = (grows own key target given m.found is m.matches).given m.given_well in
    let unlike = well_formed_unlike (renamed_pairs m.found.renames m.found.pairs) (subst (λ x. IsWellFormed x.pairs) m.extra_is well) in
    let q = subst (λ x. Subst x.pairs (exchanged x.renames key) t) m.extra_is p in
    back own m.found names m.apart unlike key target t given m.found is made whole m.matches (grows_same own m.found m.found refl) q
