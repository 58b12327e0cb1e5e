-- There is some answer to the texts of `print`, `vars` and `subst`.
use Rattle.std.proofs.Common.{ℕ, List, inl, inr, codes}
use Rattle.std.proofs.lemmas.Bool.{cases_lt}
use Rattle.dlk_tree.specs.Trees.{Tree, size, depth}
use Rattle.dlk_calculus.specs.Limits.{most_nodes, greatest_depth}
use Rattle.dlk_calculus.specs.Pairs.{Pair}
use Rattle.dlk_calculus.proofs.Decided.{subst_decided}
use Rattle.dlk_calculus.proofs.WellFormed.{well_formed_or_ill}
use Rattle.dlk_grammar.specs.declared.token.Dots.TheVariants.{Refused, Allowed}
use Rattle.dlk_grammar.specs.declared.token.Form.TheVariants.{Expression}
use Rattle.dlk_machine.proofs.TextLaws.{tree_text_well_made}
use Rattle.dlk_machine.proofs.SomeText.{some_tree, some_pairs}
use Rattle.dlk_replies.specs.declared.form.Role.TheVariants.{File, Substitution}
use Rattle.dlk_replies.specs.Replies.{Reply, refusal}
use Rattle.dlk_replies.specs.Refusals.{text_refused}
use Rattle.dlk_jobs_text.specs.Prints.{Prints, bad_text, prints, printed, FileText}
use Rattle.dlk_jobs_text.specs.Lists.{Lists, lists, bad_text as lists_fault, set_listed, symbols_listed, set_text, signature_text, four_lines}
use Rattle.dlk_jobs_text.specs.Substitutes.{Substitutes, bad_file, bad_subst, bad_pair, not_admissible, too_big, too_deep, prints as prints_result}
use Rattle.dlk_jobs_text.specs.Substitutes.{pair_refused, AreRead}
use Rattle.dlk_jobs_text.proofs.SomeListing.{some_free_listing, some_bound_listing, some_must_listing, some_signature}

pub some_print : (file : List ℕ) → (reply : Reply) × Prints file reply
some_print file = elim (some_tree Expression Allowed file) [
  | inl read ↦ (printed read.0, prints read.0 read.1)
  | inr fault ↦ (text_refused File fault.0, bad_text fault.0 fault.1)
]

pub some_list : (file : List ℕ) → (reply : Reply) × Lists file reply
some_list file = elim (some_tree Expression Allowed file) [
  | inl read ↦ listed read.0 read.1
  | inr fault ↦ (text_refused File fault.0, lists_fault fault.0 fault.1)
]
  where
    listed : (t : Tree) → FileText file t → (reply : Reply) × Lists file reply
    listed t reads =
        let made = tree_text_well_made Expression Allowed file t reads in
        let f = some_free_listing t made in
        let b = some_bound_listing t made in
        let m = some_must_listing t made in
        let s = some_signature t in (
          four_lines (set_text f.0 f.1) (set_text b.0 b.1) (set_text m.0 m.1) (signature_text s.0),
          lists t reads (set_text f.0 f.1) (set_text b.0 b.1) (set_text m.0 m.1) (signature_text s.0)
              (set_listed f.0 f.1 f.2) (set_listed b.0 b.1 b.2) (set_listed m.0 m.1 m.2) (symbols_listed s.0 s.1),
        )

pub some_substitution : (file substitution : List ℕ) → (reply : Reply) × Substitutes file substitution reply
some_substitution file substitution = elim (some_tree Expression Refused file) [
  | inr fault ↦ (text_refused File fault.0, bad_file fault.0 fault.1)
  | inl e ↦ elim (some_pairs substitution) [
    | inr fault ↦ (text_refused Substitution fault.0, bad_subst e.0 e.1 fault.0 fault.1)
    | inl pairs ↦ by_pairs e.0 pairs.0 (record { expression = e.1; substitution = pairs.1 })
  ]
]
  where
    by_pairs : (e : Tree) (pairs : List Pair) → AreRead file substitution e pairs → (reply : Reply) × Substitutes file substitution reply
    by_pairs e pairs read = elim (well_formed_or_ill pairs) [
      | inr ill ↦ (pair_refused ill.0 ill.1, bad_pair e pairs read ill.0 ill.1 ill.2)
      | inl good ↦ elim (subst_decided pairs e) [
        | inr none ↦ (refusal (codes "not-admissible"), not_admissible e pairs read good none)
        | inl made ↦ elim (cases_lt most_nodes (size made.0)) [
          | inl big ↦ (refusal (codes "result-too-big"), too_big e pairs read made.0 (record { well_formed = good; result = made.1 }) big)
          | inr small ↦ elim (cases_lt greatest_depth (depth made.0)) [
            | inl deep ↦ (refusal (codes "result-too-deep"), too_deep e pairs read made.0 (record { well_formed = good; result = made.1 }) small deep)
            | inr shallow ↦ (printed made.0, prints_result e pairs read made.0 (record { well_formed = good; result = made.1 }) small shallow)
          ]
        ]
      ]
    ]
