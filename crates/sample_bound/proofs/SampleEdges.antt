-- In the graph of the generated run three edges lead from each person at most.
use Rattle.std.proofs.Common.{◌≡◌, ℕ, ◌≤◌, Bool, true, false, cond, pos, List, [], ◌∷◌, filter, length, sym, subst, ap, ◌∙◌, arith}
use Rattle.std.proofs.lemmas.List.{append-nil, length-map}
use Rattle.std.proofs.lemmas.List.FromFn.{length-range_with_len}
use Rattle.pgq_base.specs.Instances.{RowValues}
use Rattle.pgq_base.specs.declared.value.Value.{Value}
use Rattle.pgq_base.specs.declared.value.Value.TheVariants.{Number}
use Rattle.graph_meaning.specs.View.{Identity, View, same_identity, vertex_of, edge_of, is_edge, vertices_of, edges_of, view}
use Rattle.graph_meaning.proofs.Elements.{same_identity_decides}
use Rattle.graph_meaning.proofs.Members.{range_once}
use Rattle.sample_run.specs.SampleCatalog.{sample_graph}
use Rattle.sample_run.specs.SampleRun.{numbers_to, person_row, knows_row, rows_for, person_rows, knows_rows, sample_rows}
use Rattle.sample_bound.proofs.Counting.{at_most_one, few_pass, no_more_mapped}
use Rattle.sample_bound.proofs.Forward.{leaves}

abbrev pub sample_view : ℕ → View
sample_view n = view sample_graph (sample_rows n)

abbrev person : ℕ → Identity
person i = (0, Number (pos i) ∷ [])

same_person : (i j : ℕ) → person i ≡ person j → i ≡ j
same_person i j h = let keys : (let l : List Value = Number (pos i) ∷ [] in l) ≡ Number (pos j) ∷ [] = ap (λ identity. identity.1) h in cc

pub vertex_count : (n : ℕ) → length (sample_view n).vertices ≡ n
vertex_count n =
    ap length (append-nil (vertices_of sample_graph (sample_rows n) 0))
    ∙ length-map (person_rows n) (vertex_of sample_graph 0) ∙ length-map (numbers_to n) person_row ∙ length-range_with_len 1 n

module _ (n : ℕ) (vertex : Identity) where
  abbrev row_leaves : RowValues → Bool
  row_leaves row = leaves vertex (edge_of sample_graph 0 row)

  abbrev is_it : ℕ → Bool
  is_it i = same_identity (person i) vertex

  abbrev if_it : Bool → RowValues → List RowValues → List RowValues
  if_it b row rows = cond b (row ∷ rows) rows

  three : (b : Bool) (x y z : RowValues) → length (if_it b x (if_it b y (if_it b z []))) ≤ cond b 3 0
  three true x y z = omega arith
  three false x y z = omega arith

  from_person : (i : ℕ) → length (filter row_leaves (rows_for n i)) ≤ cond (is_it i) 3 0
  from_person i = three (is_it i) (knows_row n i 0) (knows_row n i 1) (knows_row n i 2)

  one_person : length (filter is_it (numbers_to n)) ≤ 1
  one_person = at_most_one is_it (numbers_to n) (range_once 1 n)
      (λ i j p q. same_person i j ((same_identity_decides (person i) vertex).0 p ∙ sym ((same_identity_decides (person j) vertex).0 q)))

  few_rows : length (filter row_leaves (knows_rows n)) ≤ 3
  few_rows =
      let all = few_pass (rows_for n) row_leaves is_it 3 from_person (numbers_to n) in
      let one = one_person in
      omega arith

  pub few_edges : length (filter (leaves vertex) (sample_view n).edges) ≤ 3
  few_edges =
      let kept = no_more_mapped (edge_of sample_graph 0) (is_edge sample_graph (sample_rows n) 0) (leaves vertex) (knows_rows n) in
      let all = few_rows in
      let few : length (filter (leaves vertex) (edges_of sample_graph (sample_rows n) 0)) ≤ 3 = omega arith in
      subst (λ edges. length (filter (leaves vertex) edges) ≤ 3) (sym (append-nil (edges_of sample_graph (sample_rows n) 0))) few
