use Rattle.dlk_lex.proofs.FirstTokens.{starts_more}
use Rattle.dlk_lex.proofs.noted.Noted.note.Goals as goal

pub returns : goal.returns
returns c seen h = record {
  starts = starts_more seen c.args.token.now c.args.self.now.starts.items c.push.new.self.items h.starts c.in_ok-push.ensures.items;
  long = c.first_long-self.ensures seen h.long;
  levels = c.levels_behind-self.ensures seen h.levels;
}
