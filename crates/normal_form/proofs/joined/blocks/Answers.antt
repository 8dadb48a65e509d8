use Rattle.std.proofs.Common.{◌≡◌, ℕ, List, map, flat_map, Bor, IfOk, Option, get_or, subst, ap, ap₂, ◌∙◌}
use Rattle.std.specs.List.{list_all, enumerate_from}
use Rattle.pgq_base.specs.declared.name.Name.{Name}
use Rattle.graph_ast.specs.declared.blocks.Block.{Block}
use Rattle.graph_ast.specs.declared.catalog.Graph.{Graph}
use Rattle.graph_ast.specs.declared.checked.CheckedPath.{CheckedPath}
use Rattle.graph_ast.specs.Lookups.{graph_at}
use Rattle.graph_meaning.specs.Choices.{singletons_of}
use Rattle.graph_meaning.specs.Blocks.{path_blocks, query_path_blocks}
use Rattle.graph_meaning.specs.Answers.{query_singletons}
use Rattle.normal_form.specs.declared.joined.Joined.{Joined}
use Rattle.normal_form.specs.Rows.{BlockCost, HaveSame, seen}
use Rattle.normal_form.specs.Join.{AreJoined, AreAllJoined}
use Rattle.normal_form.proofs.Steps.{get_any}
use Rattle.normal_form.proofs.RowSharing.{graph_blocks, free_alone}
use Rattle.normal_form.proofs.joined.blocks.Goals as goal

abbrev named : Bor Name → List ℕ
named n = n.now

pub returns : goal.returns
returns c =
    let query = c.args.query.now in
    let graphs = c.args.catalog.now.graphs in
    let graph : Graph = graph_at c.args.catalog.now query.graph in
    let found : c.index-as_slice-query.result ≡ graph =
    c.index-as_slice-query.is ∙ ap (λ (l : List Graph). get_or l query.graph c.index-as_slice-query.result) c.as_slice.ensures
    ∙ get_any graphs query.graph _ _ c.requires.graph in
    let lists : c.in_ok-lists.lists ≡ query_path_blocks graph query =
    c.in_ok-lists.ensures
    ∙ ap₂ (λ (g : Graph) (ps : List CheckedPath). map (λ (numbered : ℕ × CheckedPath). path_blocks g numbered.0 numbered.1) (enumerate_from 0 ps)) found c.as_slice-paths.ensures in
    let names : List (List ℕ) = map named c.as_slice-3.result.now in
    let same : HaveSame names (query_singletons query) = λ p.
    ap (λ (ns : List (Bor Name)). list_all p (map named ns)) c.as_slice-3.ensures.value ∙ c.in_ok-names.ensures p
    ∙ ap (λ (ps : List CheckedPath). list_all p (flat_map singletons_of ps)) c.as_slice-paths.ensures in
    let parts : List (List BlockCost) = map (map seen) c.as_slice-4.result.now in
    let all : AreAllJoined names parts _ c.in-Some.all = subst (λ (o : Option Joined). AreJoined names parts _ o) c.in-Some.is c.in_ok-join.ensures in
    subst (λ (l : List Block). IfOk c.blocks_of.result (λ blocks. blocks ≡ l))
    (graph_blocks graph query names same parts
    (free_alone c.in_ok-lists.lists _ parts lists
    (ap (map (map seen)) c.as_slice-4.ensures ∙ c.in_ok-parts.ensures ∙ ap (map (map (λ block. (block, 0)))) c.as_slice-2.ensures))
    (map (map seen) c.as_slice-in-Some.result.now) (ap (map (map seen)) c.as_slice-in-Some.ensures ∙ all.rows))
    c.blocks_of.ensures
