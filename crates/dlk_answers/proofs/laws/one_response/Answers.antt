use Rattle.dlk_answers.proofs.OneReply.{one_response}
use Rattle.dlk_answers.proofs.laws.one_response.Goals as goal

pub returns : goal.returns
returns c =
    one_response
    (record {
      prints = c.one_text_reply.ensures.prints;
      lists = c.one_text_reply.ensures.lists;
      substitutes = c.one_text_reply.ensures.substitutes;
      checks = c.one_check_reply.ensures.checks;
      guards = c.one_check_reply.ensures.guards;
      proves = c.one_proof_reply.ensures.proves;
      generates = c.one_proof_reply.ensures.generates;
      converts = c.one_term_reply.ensures.converts;
      links = c.one_term_reply.ensures.links;
      trims = c.one_term_reply.ensures.trims;
      sessions = c.one_session_reply.ensures;
    })
