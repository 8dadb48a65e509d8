use Rattle.std.proofs.Common.{◌≡◌, ℕ, ◌<◌, List, Option, Some, map, length, get_or, ap, sym, subst, ◌∙◌, Bor}
use Rattle.std.specs.List.{sum_by, list_all, enumerate_from}
use Rattle.std.proofs.lemmas.List.{length-map}
use Rattle.std.proofs.lemmas.List.FromFn.{length-enumerate_from}
use Rattle.pgq_base.specs.declared.name.Name.{Name}
use Rattle.graph_ast.specs.declared.catalog.Graph.{Graph}
use Rattle.graph_ast.specs.declared.checked.CheckedPath.{CheckedPath}
use Rattle.graph_ast.specs.declared.blocks.PathBlock.{PathBlock}
use Rattle.graph_ast.specs.Lookups.{graph_at}
use Rattle.graph_meaning.specs.Blocks.{path_blocks}
use Rattle.normal_form.specs.declared.weight.Lists.{Lists}
use Rattle.normal_form.specs.Rows.{HaveSame, seen}
use Rattle.normal_form.specs.Weighing.{assignments_weight, HasLists, AreWeighed}
use Rattle.normal_form.proofs.Steps.{get_any}
use Rattle.normal_form.proofs.WeightLemmas.{rows_weighed, over_assignments, over_rows, all_paid, left_within}
use Rattle.normal_form.proofs.weight.weight_of.Goals as goal

abbrev named : Bor Name → List ℕ
named n = n.now

abbrev numbered_blocks : Graph → List CheckedPath → List (List PathBlock)
numbered_blocks graph paths = map (λ numbered. path_blocks graph numbered.0 numbered.1) (enumerate_from 0 paths)

-- what the assignments of all path patterns leave, or that they leave nothing
weighed_all : (graph : Graph) (paths : List CheckedPath) (found : Lists) (o : Option Lists) → o ≡ Some found
    → AreWeighed 1000000 (sum_by (assignments_weight graph) paths) (numbered_blocks graph paths) o
    → HasLists 1000000 (sum_by (assignments_weight graph) paths) (numbered_blocks graph paths) found
weighed_all graph paths found o is h = subst (λ (x : Option Lists). AreWeighed 1000000 (sum_by (assignments_weight graph) paths) (numbered_blocks graph paths) x) is h

there_is : (graphs : List Graph) (place : ℕ) (found : Graph) (listed : List Graph) (d : Graph) → found ≡ get_or listed place found → listed ≡ graphs → place < length graphs
    → found ≡ get_or graphs place d
there_is graphs place found listed d is same inside = is ∙ ap (λ (l : List Graph). get_or l place found) same ∙ get_any graphs place found d inside

pub returns-in-None : goal.returns-in-None
returns-in-None c =
    let query = c.args.query.now in
    let graph = graph_at c.args.catalog.now query.graph in
    let element = c.index-as_slice-query.result in
    let paths = c.as_slice-paths.result.now in
    let here : element ≡ graph = there_is c.args.catalog.now.graphs query.graph element _ _ c.index-as_slice-query.is c.as_slice.ensures c.requires.graph in
    over_assignments 1000000 graph element query paths here c.as_slice-paths.ensures
    (subst (λ (x : Option Lists). AreWeighed 1000000 (sum_by (assignments_weight element) paths) (numbered_blocks element paths) x) c.in-None.is c.in_ok-weigh_paths.ensures)

pub costed-requires : goal.costed-requires
costed-requires c =
    let element = c.index-as_slice-query.result in
    let paths = c.as_slice-paths.result.now in
    let all = weighed_all element paths c.in-Some.found c.in_ok-weigh_paths.field-0 c.in-Some.is c.in_ok-weigh_paths.ensures in
    ap length (c.as_slice-2.ensures ∙ all.lists)
    ∙ length-map (enumerate_from 0 paths) (λ (numbered : ℕ × CheckedPath). path_blocks element numbered.0 numbered.1) ∙ length-enumerate_from 0 paths

pub returns-in-None-2 : goal.returns-in-None-2
returns-in-None-2 c =
    let query = c.args.query.now in
    let graph = graph_at c.args.catalog.now query.graph in
    let element = c.index-as_slice-query.result in
    let paths = c.as_slice-paths.result.now in
    let here : element ≡ graph = there_is c.args.catalog.now.graphs query.graph element _ _ c.index-as_slice-query.is c.as_slice.ensures c.requires.graph in
    let all = weighed_all element paths c.in-Some.found c.in_ok-weigh_paths.field-0 c.in-Some.is c.in_ok-weigh_paths.ensures in
    let few = left_within 1000000 graph element query paths here c.as_slice-paths.ensures c.in-Some.found.left all.left in
    let names : List (List ℕ) = map named c.as_slice-3.result.now in
    let same : HaveSame names _ = λ p. ap (λ (ns : List (Bor Name)). list_all p (map named ns)) c.as_slice-3.ensures.value ∙ c.in_ok-names.ensures p in
    let weighed = rows_weighed graph element query paths c.as_slice-2.result.now names (map (map seen) c.as_slice-4.result.now) c.answer_nodes-answer.result c.in-Some.found.left
    c.in_ok-weigh_rows.field-0 here c.as_slice-paths.ensures same (c.as_slice-2.ensures ∙ all.lists) (ap (map (map seen)) c.as_slice-4.ensures ∙ c.in_ok-lists.ensures)
    c.answer_nodes-answer.ensures few c.in_ok-weigh_rows.ensures in
    over_rows 1000000 graph element query paths here c.as_slice-paths.ensures c.in-Some.found.left all.left (sym weighed ∙ c.in-None-2.is)

pub returns : goal.returns
returns c =
    let query = c.args.query.now in
    let graph = graph_at c.args.catalog.now query.graph in
    let element = c.index-as_slice-query.result in
    let paths = c.as_slice-paths.result.now in
    let here : element ≡ graph = there_is c.args.catalog.now.graphs query.graph element _ _ c.index-as_slice-query.is c.as_slice.ensures c.requires.graph in
    let all = weighed_all element paths c.in-Some.found c.in_ok-weigh_paths.field-0 c.in-Some.is c.in_ok-weigh_paths.ensures in
    let few = left_within 1000000 graph element query paths here c.as_slice-paths.ensures c.in-Some.found.left all.left in
    let names : List (List ℕ) = map named c.as_slice-3.result.now in
    let same : HaveSame names _ = λ p. ap (λ (ns : List (Bor Name)). list_all p (map named ns)) c.as_slice-3.ensures.value ∙ c.in_ok-names.ensures p in
    let weighed = rows_weighed graph element query paths c.as_slice-2.result.now names (map (map seen) c.as_slice-4.result.now) c.answer_nodes-answer.result c.in-Some.found.left
    c.in_ok-weigh_rows.field-0 here c.as_slice-paths.ensures same (c.as_slice-2.ensures ∙ all.lists) (ap (map (map seen)) c.as_slice-4.ensures ∙ c.in_ok-lists.ensures)
    c.answer_nodes-answer.ensures few c.in_ok-weigh_rows.ensures in
    all_paid 1000000 graph element query paths here c.as_slice-paths.ensures c.in-Some.found.left c.in-Some-2.left all.left (sym weighed ∙ c.in-Some-2.is)
