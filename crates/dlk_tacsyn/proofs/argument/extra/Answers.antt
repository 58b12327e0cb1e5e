use Rattle.std.proofs.Common.{◌≡◌, None}
use Rattle.dlk_calculus.specs.Pairs.{Extra}
use Rattle.dlk_grammar.specs.Texts.{ExtraText, ExtraTextFault}
use Rattle.dlk_sequent.specs.Extras.{extra_at}
use Rattle.dlk_tacsyn.specs.States.{ByReading}
use Rattle.dlk_tacsyn.proofs.Quoted.{text_read, text_unread, unread_fault}
use Rattle.dlk_tacsyn.proofs.argument.extra.Goals as goal

pub returns-in-Ok-clause-found : goal.returns-in-Ok-clause-found
returns-in-Ok-clause-found g c = λ read reading.
    text_read (λ (e : Extra). ExtraText c.args.text.now e) (c.extra_texts.ensures.one c.args.text.now)
    (read.extra c.args.text.now) (reading.extras c.args.text.now) (extra_at (g.S.Store.trees c.read_extra.new.store) c.in-Ok.extra) c.in-Ok.ensures.found

pub returns-in-Err-clause-fault : goal.returns-in-Err-clause-fault
returns-in-Err-clause-fault g c =
    rw c.unread.ensures (
    unread_fault c.args.at (ExtraTextFault c.args.text.now) (ByReading (λ read. read.extra c.args.text.now ≡ None))
    (λ w is read reading.
    text_unread (λ (e : Extra). ExtraText c.args.text.now e)
    (λ t r. c.extra_texts.ensures.no_fault c.args.text.now t w r is) (read.extra c.args.text.now) (reading.extras c.args.text.now))
    c.in-Err.fault c.in-Err.ensures.fault
    )
