use Rattle.std.proofs.Common.{◌≡◌, ◌∙◌, ℕ, Bool, false, List, [], ap, sym, refl, subst}
use Rattle.std.specs.List.{list_any}
use Rattle.std.specs.Str.{bytes_eq}
use Rattle.dlk_tree.specs.Tests.{var_eq}
use Rattle.dlk_tree.specs.Named.{is_named, nowhere}
use Rattle.dlk_tree.specs.Trees.{Tree, WellMade}
use Rattle.dlk_tree.specs.declared.op.Var.{Var}
use Rattle.dlk_tree.proofs.Elsewhere.{elsewhere}
use Rattle.dlk_tree.proofs.SomeVar.{not_named}
use Rattle.dlk_store.specs.Stores.{tree}
use Rattle.dlk_store.specs.Listings.{set_of as set_in}
use Rattle.dlk_store.specs.declared.Id.{Id}
use Rattle.dlk_store.specs.declared.listing.Which.{Which}
use Rattle.dlk_store.specs.declared.listing.Which.TheVariants.{Free, Bound, Must}
use Rattle.dlk_plain.specs.declared.sets.Two.{Two}
use Rattle.dlk_plain.specs.Plain.{trees_of}
use Rattle.dlk_plain.specs.Growth.{all_made}
use Rattle.dlk_plain.specs.Sets.{set_of, asked}
use Rattle.dlk_plain.specs.Added.{told, Adds}
use Rattle.dlk_plain.proofs.Owed.{listing_of_names}
use Rattle.dlk_plain.proofs.store.PlainStoreStore.list.Goals as goal

-- the set that is asked for, by its word
asked_set : (trees : List Tree) (which : Which) (id : Id) → set_of trees (asked which id) ≡ set_in which (tree trees id)
asked_set trees Free id = refl
asked_set trees Bound id = refl
asked_set trees Must id = refl

-- a variable that the tree doesn't name is in the set as the others are
alike : (which : Which) (t : Tree) → WellMade t → (v : Var) → is_named v.name t ≡ false → set_in which t v ≡ set_in which t nowhere
alike Free t made v h = (elsewhere t v nowhere h (not_named t made)).free
alike Bound t made v h = (elsewhere t v nowhere h (not_named t made)).bound
alike Must t made v h = (elsewhere t v nowhere h (not_named t made)).must

pub returns : goal.returns
returns c =
    let nodes = c.args.self.now.nodes.items in
    let trees = trees_of nodes in
    let t = tree trees c.args.id in
    let set = set_in c.args.which t in
    let others = c.in_set-others.result.plain in
    let names = c.as_slice.result.now in
    let vars = c.list_names.new.vars.keys in
    let same_set = ap (set_of trees) c.of_tree-set.ensures ∙ asked_set trees c.args.which c.args.id in
    let rest : others ≡ set nowhere = ap (λ (two : Two). two.plain) c.in_set-others.ensures ∙ ap (λ s. s nowhere) same_set in
    let found = subst (λ (old : List (List ℕ)). Adds bytes_eq (λ x. is_named x t) old c.names_at.new.names.keys) c.new-names.ensures.empty
    c.in_ok-names_at.ensures in
    let same_names = c.as_slice.ensures.value ∙ c.in_ok-names.ensures.items in
    let named : List ℕ → Bool = λ x. list_any (bytes_eq x) names in
    let found_are : (x : List ℕ) → is_named x t ≡ named x = λ x. sym (ap (λ (xs : List (List ℕ)). list_any (bytes_eq x) xs) same_names ∙ found.adds x) in
    let made = all_made nodes c.args.self.now.sound c.args.id.0 _ c.requires in
    let unnamed : (v : Var) → named v.name ≡ false → set v ≡ others = λ v h. alike c.args.which t made v (found_are v.name ∙ h) ∙ sym rest in
    let from_none = subst (λ (old : List Var). Adds var_eq (told (set_of trees c.of_tree-set.result) others named) old vars) c.new-vars.ensures.empty
    c.in_ok-list_names.ensures in
    let adds = subst (λ (s : Var → Bool). Adds var_eq (told s others named) [] vars) same_set from_none in
    rw (c.new.ensures, c.in_ok-vars.ensures.items) (listing_of_names set others named vars unnamed c.vars_in_order.ensures.ordered adds)
