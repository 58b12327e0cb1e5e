-- What `prove` and `gen` answer is carried out.
use Rattle.std.proofs.Common.{ℕ, List, arith}
use Rattle.dlk_tacsyn.specs.Faults.{Fault, Syntax, Nesting, Repeat, UnknownAtom, Arguments}
use Rattle.dlk_library.specs.Generated.{generated_model, generated_strategy}
use Rattle.dlk_replies.specs.declared.form.Role.TheVariants.{Model}
use Rattle.dlk_replies.specs.declared.reply.Showing.TheVariants.{Summed}
use Rattle.dlk_replies.specs.Replies.{Reply}
use Rattle.dlk_replies.proofs.CarriedOut.{IsCarriedOut, printed_only, text_carried_out}
use Rattle.dlk_jobs_check.proofs.CarriedOut.{check_carried_out}
use Rattle.dlk_jobs_record.proofs.CarriedOut.{record_carried_out}
use Rattle.dlk_jobs_prove.specs.Proves.{Proves, bad_model, bad_strategy, fails, spent, records, strategy_refused}
use Rattle.dlk_jobs_prove.specs.Generates.{Generates, refuses, checks}

strategy_carried_out : (why : Fault) → IsCarriedOut (strategy_refused why)
strategy_carried_out (Syntax at) = printed_only _ _ (omega arith)
strategy_carried_out (Nesting at) = printed_only _ _ (omega arith)
strategy_carried_out (Repeat at) = printed_only _ _ (omega arith)
strategy_carried_out (UnknownAtom at) = printed_only _ _ (omega arith)
strategy_carried_out (Arguments at) = printed_only _ _ (omega arith)

pub prove_carried_out : (model strategy : List ℕ) (reply : Reply) → Proves model strategy reply → IsCarriedOut reply
prove_carried_out model strategy reply (bad_model why fault) = text_carried_out Model why
prove_carried_out model strategy reply (bad_strategy f t why fault) = strategy_carried_out why
prove_carried_out model strategy reply (fails at used why run) = printed_only _ _ (omega arith)
prove_carried_out model strategy reply (spent at run) = printed_only _ _ (omega arith)
prove_carried_out model strategy reply (records made left run p ended r is) = record_carried_out made.steps p r is

pub generate_carried_out : (n : ℕ) (reply : Reply) → Generates n reply → IsCarriedOut reply
generate_carried_out n reply (refuses r proof none) = prove_carried_out (generated_model n) (generated_strategy n) r proof
generate_carried_out n reply (checks proved r term proof written checked) = check_carried_out (Summed n) (generated_model n) term r checked
