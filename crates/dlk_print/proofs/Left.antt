-- How far an appended text has come.
use Rattle.std.proofs.Common.{◌≡◌, ℕ, List, [], ◌++◌, Result, Ok, Err, refl, sym, ap, subst, ◌∙◌, append_assoc}
use Rattle.std.specs.Prelude.{IsErr}
use Rattle.std.proofs.lemmas.List.{append-nil}
use Rattle.std.proofs.lemmas.Result.{on_ok_weaker}
use Rattle.dlk_print.specs.declared.fault.PrintFault.{PrintFault}
use Rattle.dlk_print.specs.Printed.{IsPrefix, Begun, Appends}

-- of the text that is appended to old, this is left
pub record Left (old text now rest : List ℕ) : Type 0 where
  pub grown : IsPrefix old now
  pub left : now ++ rest ≡ old ++ text

pub unbegun : (old : List ℕ) {text rest : List ℕ} → rest ≡ text → Left old text old rest
unbegun old e = record { grown = ([], sym (append-nil old)); left = ap (λ l. old ++ l) e }

pub same_rest : {old text now rest more : List ℕ} → rest ≡ more → Left old text now rest → Left old text now more
same_rest {old} {text} {now} e a = subst (λ l. Left old text now l) e a

-- the next part was appended
pub appended : {old text now new : List ℕ} (part rest : List ℕ) → Left old text now (part ++ rest) → new ≡ now ++ part → Left old text new rest
appended {old} {text} {now} part rest a e = record {
  grown = (a.grown.0 ++ part, e ∙ ap (λ l. l ++ part) a.grown.1 ∙ append_assoc old a.grown.0 part);
  left = ap (λ l. l ++ rest) e ∙ append_assoc now part rest ∙ a.left;
}

-- some of the next part was appended
pub partly : {old text now new : List ℕ} (part rest : List ℕ) → Left old text now (part ++ rest) → Begun now new part → Begun old new text
partly {old} {text} {now} {new} part rest a b = record {
  grown = (a.grown.0 ++ b.grown.0, b.grown.1 ∙ ap (λ l. l ++ b.grown.0) a.grown.1 ∙ append_assoc old a.grown.0 b.grown.0);
  within = (b.within.0 ++ rest, sym a.left ∙ sym (append_assoc now part rest) ∙ ap (λ l. l ++ rest) b.within.1 ∙ append_assoc new b.within.0 rest);
}

-- the last part was appended, or some of it
pub last : {A : Type 0} {old text now new : List ℕ} {part : List ℕ} {result : Result A PrintFault} → Left old text now part → Appends now new part result →
    Appends old new text result
last {A} {old} {text} {now} {new} {part} {result} a e = record {
  ok = on_ok_weaker result (λ (h : new ≡ now ++ part). h ∙ a.left) e.ok;
  begun = partly part [] (same_rest (sym (append-nil part)) a) e.begun;
}

-- nothing is left
pub done : {A : Type 0} {old text now : List ℕ} (x : A) → Left old text now [] → Appends {A = A} old now text (Ok x)
done {A} {old} {text} {now} x a = record {
  ok = sym (append-nil now) ∙ a.left;
  begun = record { grown = a.grown; within = ([], sym a.left) };
}

-- a part failed
pub failed : {A : Type 0} {old text new : List ℕ} (result : Result A PrintFault) → IsErr result → Begun old new text → Appends old new text result
failed (Ok x) h b = absurd (cc)
failed (Err why) h b = record { ok = tt; begun = b }

-- the text in two parts: the first one failed, or it went well and the second one was tried
pub first_failed : {A : Type 0} {old new : List ℕ} (part rest : List ℕ) (result : Result A PrintFault) → IsErr result → Begun old new part →
    Appends old new (part ++ rest) result
first_failed {A} {old} part rest result h b = failed result h (partly part rest (unbegun old refl) b)

pub then_last : {A : Type 0} {old now new : List ℕ} (part : List ℕ) {rest : List ℕ} {result : Result A PrintFault} → now ≡ old ++ part →
    Appends now new rest result → Appends old new (part ++ rest) result
then_last {A} {old} part {rest} e a = last (appended part rest (unbegun old refl) e) a

-- what is appended is the text
pub same_text : {A : Type 0} {old new text other : List ℕ} {result : Result A PrintFault} → text ≡ other → Appends old new text result →
    Appends old new other result
same_text {A} {old} {new} {result = result} e a = subst (λ l. Appends old new l result) e a
