use Rattle.dlk_elab.proofs.SomeAtom.{some_atom}
use Rattle.dlk_elab.proofs.laws.some_atom.Goals as goal

pub returns : goal.returns
returns c = some_atom c.given_unless_against.ensures.against
    (record {
      put_made = c.put_is_there.ensures.made;
      inside_made = c.subtrees_keep.ensures.made;
      inside_lacks = c.subtrees_keep.ensures.lack;
      joined = c.paths_join.ensures.subtree;
      innermost = c.one_innermost.ensures.some;
      names = c.match_is_proper.ensures.names;
      pairs = c.match_is_proper.ensures.made;
      same_sort = c.match_keeps_sort.ensures;
      axiom_made = c.axioms_have_own_names.ensures.made;
      ends_made = c.axioms_have_own_names.ensures.ends_made;
      axiom_shaped = c.uses_have_shapes.ensures.axioms;
      instance_shaped = c.uses_have_shapes.ensures.instances;
      instance_made = c.uses_have_shapes.ensures.made;
    })
    c.some_match.ensures
