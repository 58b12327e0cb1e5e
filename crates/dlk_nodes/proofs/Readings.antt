-- The text of a node says at most one operator and one list of kids.
use Rattle.std.proofs.Common.{◌≡◌, ℕ, ◌<◌, ◌==◌, Bool, true, false, not, List, [], ◌∷◌, ◌++◌, Option, Some, None, codes, refl, sym, ap, subst, ◌∙◌}
use Rattle.std.proofs.Common.{append_assoc, append-nil}
use Rattle.std.specs.Prelude.{if◌then◌else◌, map}
use Rattle.std.specs.List.{list_all, join_by}
use Rattle.std.proofs.lemmas.Bool.{and_parts, and_from, ltb-true}
use Rattle.std.specs.Fmt.{decimal}
use Rattle.dlk_tree.specs.declared.op.Sym.{Sym}
use Rattle.dlk_tree.specs.declared.op.Var.{Var}
use Rattle.dlk_tree.specs.declared.op.Kind.{Kind}
use Rattle.dlk_tree.specs.declared.op.Kind.TheVariants.{Func, UnitFunc, Pred, UnitPred, Quant, Prog}
use Rattle.dlk_tree.specs.declared.op.OdeItem.{OdeItem}
use Rattle.dlk_tree.specs.declared.op.Op.{Op}
use Rattle.dlk_tree.specs.declared.op.Op.TheVariants as op
use Rattle.dlk_tree.specs.Names.{is_name_byte, is_name}
use Rattle.dlk_tree.specs.Table.{taboo_is_name, is_sym_of, is_item, has_parts}
use Rattle.dlk_grammar.specs.Shown.{literal}
use Rattle.dlk_grammar.specs.Tokens.{is_digit}
use Rattle.dlk_nodes.specs.Words.{Detail, NoDetail, Named, OfVariable, OfNumber, OfDot, OfUnit, OfItems, detail_text, call_of, op_text, variable_text}
use Rattle.dlk_nodes.specs.Words.{unit_text, item_text}
use Rattle.dlk_nodes.specs.Fields.{parts_of, Each}
use Rattle.dlk_lines.specs.Spelled.{Names}
use Rattle.dlk_nodes.specs.Nodes.{NamesNode, op_and_kids, TakesKids, IsRead}
use Rattle.dlk_nodes.proofs.DotText.{dot_digits}
use Rattle.dlk_nodes.proofs.Fields.{lacks, lacks_both, behind_each, all_lack, split_back}
use Rattle.dlk_nodes.proofs.Parted.{each_one, each_long}
use Rattle.dlk_nodes.proofs.Numbered.{one_name, fields_named}
use Rattle.dlk_nodes.proofs.NumberBack.{number_lacks}
use Rattle.dlk_nodes.proofs.OpsBack.{lacks_if, name_lacks, symbol_parts, items_lack, joined}
use Rattle.dlk_nodes.proofs.OpsRead.{detail_fields, read_op, found, op_back}

-- ---- words and details

pub word_lacks : (o : Op) → lacks 32 (call_of o).0 ≡ true
word_lacks (op.Variable v) = refl
word_lacks _ = refl

pub detail_behind : (d : Detail) → detail_text d ≡ behind_each 32 (detail_fields d)
detail_behind NoDetail = refl
detail_behind (Named x) = sym (append-nil (codes " " ++ x))
detail_behind (OfVariable v) = sym (append-nil (codes " " ++ variable_text v))
detail_behind (OfNumber n) = sym (append-nil (codes " " ++ literal n))
detail_behind (OfDot n) = sym (append-nil (detail_text (OfDot n)))
detail_behind (OfUnit x y) = sym (append-nil (codes " " ++ unit_text x y))
detail_behind (OfItems items) = sym (append-nil (detail_text (OfItems items)))

behind_both : (byte : ℕ) (xs ys : List (List ℕ)) → behind_each byte (xs ++ ys) ≡ behind_each byte xs ++ behind_each byte ys
behind_both byte [] ys = refl
behind_both byte (x ∷ xs) ys = ap (λ l. byte ∷ [] ++ x ++ l) (behind_both byte xs ys)
    ∙ sym (append_assoc (byte ∷ [] ++ x) (behind_each byte xs) (behind_each byte ys))

pub all_lack_both : (byte : ℕ) (xs ys : List (List ℕ)) → all_lack byte xs → all_lack byte ys → all_lack byte (xs ++ ys)
all_lack_both byte [] ys a b = b
all_lack_both byte (x ∷ xs) ys a b = (a.0, all_lack_both byte xs ys a.1 b)

join_lacks : (byte : ℕ) (parts : List (List ℕ)) → not (44 == byte) ≡ true → all_lack byte parts → lacks byte (behind_each 44 parts) ≡ true
join_lacks byte [] other all = refl
join_lacks byte (part ∷ parts) other all =
    lacks_both byte (44 ∷ [] ++ part) (behind_each 44 parts) (and_from (not (44 == byte)) (lacks byte part) other all.0) (join_lacks byte parts other all.1)

-- a byte that stands in no name, number, prime, bracket, bar or comma stands in no detail
module _ (byte : ℕ) (no_name : is_name_byte byte ≡ false) (no_digit : is_digit byte ≡ false) (prime : lacks byte (codes "'") ≡ true) (bar : lacks byte
    (codes "|") ≡ true)
    (marks : lacks byte (codes "'{||}") ≡ true) (comma : not (44 == byte) ≡ true) (point : not (46 == byte) ≡ true) where
  unit_lacks : (x : List ℕ) (y : Option (List ℕ)) → is_name x ≡ true → taboo_is_name y ≡ true → lacks byte (unit_text x y) ≡ true
  unit_lacks x None h g = name_lacks byte no_name x h
  unit_lacks x (Some y) h g =
      lacks_both byte (x ++ codes "|" ++ y) (codes "|") (lacks_both byte (x ++ codes "|") y (lacks_both byte x (codes "|")
      (name_lacks byte no_name x h) bar) (name_lacks byte no_name y g)) bar

  variable_lacks : (v : Var) → is_name v.name ≡ true → lacks byte (variable_text v) ≡ true
  variable_lacks v h = by_test v.primed
    where
      by_test : (b : Bool) → lacks byte (if b then v.name ++ codes "'" else v.name) ≡ true
      by_test true = lacks_both byte v.name (codes "'") (name_lacks byte no_name v.name h) prime
      by_test false = name_lacks byte no_name v.name h

  items_text_lacks : (items : List OdeItem) → list_all is_item items ≡ true → lacks byte (join_by item_text (codes ",") items) ≡ true
  items_text_lacks [] h = refl
  items_text_lacks (i ∷ items) h =
      let all = items_lack byte no_name marks (i ∷ items) h in
      ap (λ l. lacks byte (item_text i ++ l)) (joined items) ∙ lacks_both byte (item_text i) (behind_each 44 (map item_text items)) all.0
      (join_lacks byte (map item_text items) comma all.1)

  named_lacks : (k : Kind) (s : Sym) → is_sym_of k s ≡ true → lacks byte s.name ≡ true
  named_lacks k s h = name_lacks byte no_name s.name (symbol_parts k s h).name_is

  pub details_lack : (o : Op) → has_parts o ≡ true → all_lack byte (detail_fields (call_of o).1)
  details_lack (op.Variable v) h = (variable_lacks v h, tt)
  details_lack (op.Number n) h = (number_lacks byte no_digit point n h, tt)
  details_lack (op.Dot n) h = (let less : n < 8 = ltb-true n 8 h in lacks_if is_digit byte no_digit (decimal n) (dot_digits n less), tt)
  details_lack (op.UnitFun s) h = (unit_lacks s.name s.taboo (symbol_parts UnitFunc s h).name_is (symbol_parts UnitFunc s h).taboo_is, tt)
  details_lack (op.UnitPred s) h = (unit_lacks s.name s.taboo (symbol_parts UnitPred s h).name_is (symbol_parts UnitPred s h).taboo_is, tt)
  details_lack (op.Apply s) h = (named_lacks Func s h, tt)
  details_lack (op.Holds s) h = (named_lacks Pred s h, tt)
  details_lack (op.Predicational s) h = (named_lacks Quant s h, tt)
  details_lack (op.Const s) h = (named_lacks Prog s h, tt)
  details_lack (op.Forall x) h = (name_lacks byte no_name x h, tt)
  details_lack (op.Exists x) h = (name_lacks byte no_name x h, tt)
  details_lack (op.Any x) h = (name_lacks byte no_name x h, tt)
  details_lack (op.Assign v) h = (variable_lacks v h, tt)
  details_lack (op.System items) h = (items_text_lacks items (and_parts _ _ (and_parts _ _ h).0).1, tt)
  details_lack _ h = tt

-- ---- readings

module _ {A : Type 0} (items : List A) where
  -- the fields of a text that is read so
  pub record Reading (text : List ℕ) (o : Op) (kids : List A) : Type 0 where
    pub fields : List (List ℕ)
    pub each : Each (Names items) fields kids
    pub text_is : text ≡ op_text o ++ behind_each 32 fields
    pub parts_are : parts_of 32 text ≡ (call_of o).0 ∷ (detail_fields (call_of o).1 ++ fields)
    pub back : read_op (call_of o).0 (detail_fields (call_of o).1 ++ fields) ≡ Some (o, fields)

  of_names : (text : List ℕ) (o : Op) (kids : List A) → NamesNode items text o kids → IsRead items text o kids → Reading text o kids
  of_names _ _ _ (op_and_kids {text} {kids} o names) is =
      let f = fields_named items text kids names in
      let w = (call_of o).0 in
      let d = (call_of o).1 in
      let texts : detail_text d ++ text ≡ behind_each 32 (detail_fields d ++ f.fields) =
      ap (λ l. l ++ text) (detail_behind d) ∙ ap (λ l. behind_each 32 (detail_fields d) ++ l) f.text_is ∙ sym (behind_both 32 (detail_fields d) f.fields) in
      let whole : op_text o ++ text ≡ w ++ behind_each 32 (detail_fields d ++ f.fields) = append_assoc w (detail_text d) text ∙ ap (λ l. w ++ l) texts in
      let lack = all_lack_both 32 (detail_fields d) f.fields (details_lack 32 refl refl refl refl refl refl refl o is.parts) f.lack in
      record {
        fields = f.fields;
        each = f.each;
        text_is = ap (λ l. op_text o ++ l) f.text_is;
        parts_are = ap (parts_of 32) whole ∙ split_back 32 w (detail_fields d ++ f.fields) refl (word_lacks o) lack;
        back = op_back o f.fields is.parts (subst (TakesKids o) (sym (each_long (Names items) f.fields kids f.each)) is.arity);
      }

  pub reading : (text : List ℕ) (o : Op) (kids : List A) → IsRead items text o kids → Reading text o kids
  reading text o kids is = of_names text o kids is.names is

  found_op : Op → Option (Op × List (List ℕ)) → Op
  found_op o None = o
  found_op o (Some x) = x.0

  found_fields : List (List ℕ) → Option (Op × List (List ℕ)) → List (List ℕ)
  found_fields fs None = fs
  found_fields fs (Some x) = x.1

  pub one_found : (o p : Op) (fs gs : List (List ℕ)) → found fs o ≡ found gs p → (o ≡ p) × (fs ≡ gs)
  unfolding found_op found_fields
  one_found o p fs gs e = (ap (found_op o) e, ap (found_fields fs) e)

  -- two readings have one operator and the same fields
  pub same_reading : (text : List ℕ) (o p : Op) (xs ys : List A) (a : Reading text o xs) (b : Reading text p ys) → (o ≡ p) × (a.fields ≡ b.fields)
  same_reading text o p xs ys a b =
      let same = sym a.parts_are ∙ b.parts_are in
      let words : (call_of o).0 ≡ (call_of p).0 = cc in
      let rest : detail_fields (call_of o).1 ++ a.fields ≡ detail_fields (call_of p).1 ++ b.fields = cc in
      one_found o p a.fields b.fields (sym a.back ∙ (λ i. read_op (words i) (rest i)) ∙ b.back)

  -- a text is read one way
  pub one_reading : (text : List ℕ) (o p : Op) (xs ys : List A) → IsRead items text o xs → IsRead items text p ys → (o ≡ p) × (xs ≡ ys)
  one_reading text o p xs ys a b =
      let r = reading text o xs a in
      let s = reading text p ys b in
      let same = same_reading text o p xs ys r s in
      (same.0, each_one (Names items) (one_name items) s.fields xs ys (subst (λ f. Each (Names items) f xs) same.1 r.each) s.each)
