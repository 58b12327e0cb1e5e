use Rattle.dlk_answers.proofs.SomeReply.{some_response}
use Rattle.dlk_answers.proofs.laws.some_response.Goals as goal

pub returns : goal.returns
returns c =
    some_response
    (record {
      prints = c.some_text_reply.ensures.prints;
      lists = c.some_text_reply.ensures.lists;
      substitutes = c.some_text_reply.ensures.substitutes;
      checks = c.some_check_reply.ensures.checks;
      guards = c.some_check_reply.ensures.guards;
      proves = c.some_proof_reply.ensures.proves;
      generates = c.some_proof_reply.ensures.generates;
      converts = c.some_term_reply.ensures.converts;
      links = c.some_term_reply.ensures.links;
      trims = c.some_term_reply.ensures.trims;
      sessions = c.some_session_reply.ensures;
    })
