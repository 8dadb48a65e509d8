use Rattle.std.proofs.Common.{◌∙◌, ◌&&◌, true, List, map, refl, ap}
use Rattle.pattern_check.specs.declared.mentions.Mention.{Mention}
use Rattle.pattern_check.specs.Scopes.{vertices, edges}
use Rattle.first_faults.specs.Names.{has_text}
use Rattle.pattern_check.specs.Mentions.{said}
use Rattle.pattern_check.specs.ByName.{any, in_group, of_kind, group_of_kind}
use Rattle.pattern_check.proofs.NameLemmas.{where_pushed, text_any, firsts_pushed}
use Rattle.pattern_check.proofs.declared.Declared.with.Goals as goal

pub invariant_of-result : goal.invariant_of-result
invariant_of-result c =
    let ms : List Mention = c.self.inside.all.items in
    let m : Mention = c.args.m in (
      where_pushed any ms _ m _ _ true c.self.invariant.0 c.in_ok-names.ensures refl c.in_ok-push.ensures.items,
      where_pushed in_group ms _ m _ _ m.quantified c.self.invariant.1 c.in_ok-groups.ensures refl c.in_ok-push.ensures.items,
      where_pushed (of_kind vertices) ms _ m _ _ _ c.self.invariant.2 c.in_ok-vertices.ensures c.is_vertices-vertex.ensures c.in_ok-push.ensures.items,
      where_pushed (of_kind edges) ms _ m _ _ _ c.self.invariant.3 c.in_ok-edges.ensures c.is_edges-edge.ensures c.in_ok-push.ensures.items,
      where_pushed (group_of_kind vertices) ms _ m _ _ _ c.self.invariant.4 c.in_ok-vertex_groups.ensures
          (c.both-vertex_group.ensures ∙ ap (λ b. b && m.quantified) c.is_vertices-vertex.ensures) c.in_ok-push.ensures.items,
      where_pushed (group_of_kind edges) ms _ m _ _ _ c.self.invariant.5 c.in_ok-edge_groups.ensures
          (c.both-edge_group.ensures ∙ ap (λ b. b && m.quantified) c.is_edges-edge.ensures) c.in_ok-push.ensures.items,
      firsts_pushed c.self.inside.firsts.items ms m c.self.invariant.6 _ _ _ c.in_ok-firsts.ensures
          (c.has-known.ensures ∙ ap (has_text m.variable.now.name) c.self.invariant.0 ∙ text_any (map said ms) m.variable.now.name) c.in_ok-push.ensures.items,
    )
