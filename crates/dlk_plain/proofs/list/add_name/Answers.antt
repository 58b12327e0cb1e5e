use Rattle.std.proofs.Common.{◌≡◌, ◌||◌, ℕ, List, sym, subst}
use Rattle.std.specs.List.{list_any}
use Rattle.std.specs.Str.{bytes_eq}
use Rattle.dlk_tree.proofs.Listing.{name_inserted}
use Rattle.dlk_plain.proofs.list.add_name.Goals as goal

pub returns : goal.returns
returns c =
    let old = c.args.names.now.keys in
    let new = c.insert.new.self.keys in
    let added = name_inserted old new c.in_ok-x.x c.in_ok-insert.ensures.updates.0 in
    record {
      adds = subst (λ (x : List ℕ). (y : List ℕ) → list_any (bytes_eq y) new ≡ (list_any (bytes_eq y) old || bytes_eq y x))
          (sym c.in_ok-x.ensures.cases) added;
    }
