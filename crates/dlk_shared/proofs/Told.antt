-- A set listed by the variables that stand out in its table.
use Rattle.std.proofs.Common.{◌≡◌, ℕ, ◌+◌, ◌<◌, Bool, true, false, cond, ◌||◌, ◌&&◌, not, List, [], ◌∷◌, length, take, refl, sym, ap, ◌∙◌}
use Rattle.std.specs.Bool.{beq}
use Rattle.std.specs.List.{list_any}
use Rattle.std.specs.Option.{option_map_or}
use Rattle.std.proofs.lemmas.List.{take_more}
use Rattle.std.proofs.lemmas.List.Folds.{list_any-append}
use Rattle.std.proofs.lemmas.Option.{slice_get-get_or}
use Rattle.dlk_tree.specs.Listed.{is_among, is_listed}
use Rattle.dlk_tree.specs.Statics.{plain}
use Rattle.dlk_tree.specs.Tests.{var_eq}
use Rattle.dlk_tree.specs.declared.op.Var.{Var}
use Rattle.dlk_vars.specs.Rows.{Row, has_number}
use Rattle.dlk_vars.specs.Sets.{has}
use Rattle.dlk_vars.specs.Tables.{IsTable}
use Rattle.dlk_vars.proofs.Numbering.{var_same, has_its_number, no_number}
use Rattle.dlk_shared.specs.SetTables.{stands_out, var_at}
use Rattle.dlk_shared.proofs.PlainToo.{no_more}

-- whether the variable is told apart from those without a number
abbrev pub out : List Var → Row → Var → Bool
out vars r w = not (beq (has vars r w) r.others)

abbrev pub told : List Var → Row → Var → Var → Bool
told vars r v w = var_eq v w && out vars r w

module _ (vars : List Var) (r : Row) where
  -- one variable more was gone through
  pub told_more : (n : ℕ) (v : Var) → IsTable vars → n < length vars
      → (list_any (told vars r v) (take n vars) || (var_eq v (var_at vars n) && stands_out r n)) ≡ list_any (told vars r v) (take (n + 1) vars)
  told_more n v table lt =
      let w = var_at vars n in
      let number = has_its_number vars table w n (slice_get-get_or vars n (plain []) lt) in
      let here : has_number r n ≡ has vars r w = sym (ap (λ o. option_map_or (has_number r) o r.others) number) in
      let front = list_any (told vars r v) (take n vars) in
      ap (λ b. front || (var_eq v w && not (beq b r.others))) here
      ∙ ap (λ b. front || b) (sym (no_more (told vars r v w)))
      ∙ sym (ap (list_any (told vars r v)) (take_more vars n (plain []) lt) ∙ list_any-append (told vars r v) (take n vars) (w ∷ []))

  told_one : (v : Var) (ws : List Var) → list_any (told vars r v) ws ≡ (is_among ws v && out vars r v)
  told_one v [] = refl
  told_one v (w ∷ ws) = by (var_eq v w) refl (told_one v ws)
    where
      by : (b : Bool) → var_eq v w ≡ b → list_any (told vars r v) ws ≡ (is_among ws v && out vars r v)
          → list_any (told vars r v) (w ∷ ws) ≡ (is_among (w ∷ ws) v && out vars r v)
      by true e rest =
          let same : v ≡ w = var_same v w e in
          ap (λ b. (b && out vars r w) || list_any (told vars r v) ws) e
          ∙ ap (λ u. out vars r u || list_any (told vars r v) ws) (sym same)
          ∙ ap (λ b. out vars r v || b) rest
          ∙ absorbed (out vars r v) (is_among ws v)
          ∙ sym (ap (λ b. (b || is_among ws v) && out vars r v) e)
        where
          absorbed : (a b : Bool) → (a || (b && a)) ≡ a
          absorbed true b = refl
          absorbed false true = refl
          absorbed false false = refl
      by false e rest =
          ap (λ b. (b && out vars r w) || list_any (told vars r v) ws) e ∙ rest
          ∙ sym (ap (λ b. (b || is_among ws v) && out vars r v) e)

  pub told_all : (listed : List Var) → ((v : Var) → is_among listed v ≡ list_any (told vars r v) vars) → (v : Var) → is_listed r.others listed v ≡ has vars r v
  told_all listed all v = ap (λ b. cond r.others (not b) b) (all v ∙ told_one v vars) ∙ by (is_among vars v) refl
    where
      turn : (o h : Bool) → cond o (not (not (beq h o))) (not (beq h o)) ≡ h
      turn true true = refl
      turn true false = refl
      turn false true = refl
      turn false false = refl

      flag : (o : Bool) → cond o (not false) false ≡ o
      flag true = refl
      flag false = refl

      by : (b : Bool) → is_among vars v ≡ b
          → cond r.others (not (is_among vars v && out vars r v)) (is_among vars v && out vars r v) ≡ has vars r v
      by true e = ap (λ b. cond r.others (not (b && out vars r v)) (b && out vars r v)) e ∙ turn r.others (has vars r v)
      by false e = ap (λ b. cond r.others (not (b && out vars r v)) (b && out vars r v)) e ∙ flag r.others
          ∙ sym (ap (λ o. option_map_or (has_number r) o r.others) (no_number vars v e))
