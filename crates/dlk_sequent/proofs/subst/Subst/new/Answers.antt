use Rattle.dlk_sequent.proofs.subst.Subst.new.Goals as goal

pub returns-clause-made : goal.returns-clause-made
returns-clause-made g c =
    record {
      known = c.requires.known;
      well_formed = rw c.deref.ensures.value at c.in_ok-check.ensures.well_formed;
      free = rw c.deref-2.ensures.value at c.is_free_in-free.ensures;
    }
