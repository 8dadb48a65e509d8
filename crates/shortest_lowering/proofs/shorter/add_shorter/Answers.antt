use Rattle.std.proofs.Common.{◌∙◌, ℕ, List, [], filter, ap, sym, subst}
use Rattle.multisets.specs.Bags.{IsIn}
use Rattle.graph_ast.specs.declared.blocks.PathBlock.{PathBlock}
use Rattle.graph_meaning.specs.Weights.{is_candidate}
use Rattle.path_lowering.specs.declared.spots.Kind.TheVariants.{Vertex}
use Rattle.path_lowering.specs.declared.spots.Spot.{Spot}
use Rattle.path_lowering.specs.Spots.{spots_along}
use Rattle.shortest_lowering.specs.Comparable.{IsPosed}
use Rattle.shortest_lowering.proofs.StandingLemmas.{read_at}
use Rattle.shortest_lowering.proofs.shorter.add_shorter.Goals as goal

pub add_none_shorter-requires : goal.add_none_shorter-requires
add_none_shorter-requires c = λ other h.
    let own = c.as_slice-blocks.ensures
    ∙ read_at [] c.args.candidates.now c.args.part.now.path c.index-candidates-part.result c.index-candidates-part.is c.requires.comparable.there ∙ c.requires.comparable.own in
    let seen = c.as_slice-outside.ensures.value ∙ c.in_ok-made.ensures ∙ ap (λ (l : List ℕ). spots_along Vertex l c.args.items.now) c.as_slice.ensures in
    subst (λ (l : List Spot). IsPosed c.args.scene.now.catalog.now c.args.scene.now.graph.now c.args.path.now l other) (sym seen)
    (c.requires.comparable.posed c.args.items.now c.requires.many other (subst (λ (l : List PathBlock). IsIn other (filter (is_candidate c.args.part.now) l)) own h))
