-- The candidate of a path block has the form that NOT EXISTS of it asks for.
use Rattle.std.proofs.Common.{◌≡◌, ℕ, suc, ◌+◌, ◌-◌, ◌<◌, ◌≤◌, true, cond, List, [], ◌∷◌, map, length, get_or, refl, sym, ap, ap₂, subst, ◌∙◌, arith, None}
use Rattle.std.specs.List.{range_with_len}
use Rattle.std.proofs.Math.ListN.{length-map}
use Rattle.std.proofs.lemmas.Bool.{eq-eqb}
use Rattle.std.proofs.lemmas.List.{get_or-map}
use Rattle.std.proofs.lemmas.List.FromFn.{get_or-range_with_len}
use Rattle.multisets.specs.Bags.{IsIn}
use Rattle.graph_ast.specs.declared.catalog.Catalog.{Catalog}
use Rattle.graph_ast.specs.declared.catalog.Graph.{Graph}
use Rattle.graph_ast.specs.declared.checked.CheckedPath.{CheckedPath}
use Rattle.graph_ast.specs.declared.blocks.PathBlock.{PathBlock}
use Rattle.graph_meaning.specs.Choices.{singletons_of}
use Rattle.graph_meaning.specs.Lists.{numbers_below}
use Rattle.graph_meaning.proofs.Members.{from_map}
use Rattle.sql_algebra.specs.declared.tree.ColumnLeaf.{ColumnLeaf}
use Rattle.sql_algebra.specs.declared.tree.FromItem.{FromItem}
use Rattle.sql_algebra.specs.declared.tree.Select.{Select}
use Rattle.sql_algebra.specs.Soundness.{select_is_sound}
use Rattle.path_lowering.specs.declared.placing.Source.{Source}
use Rattle.path_lowering.specs.declared.spots.Kind.{Kind}
use Rattle.path_lowering.specs.declared.spots.Kind.TheVariants.{Vertex}
use Rattle.path_lowering.specs.declared.spots.Spot.{Spot}
use Rattle.path_lowering.specs.Spots.{element_at, other_kind, spots_along}
use Rattle.path_lowering.specs.Apart.{apart}
use Rattle.path_lowering.specs.Blocks.{Laid, laid_spots, own_spots, source_of, sources_of, block_conditions}
use Rattle.path_lowering.specs.Emitted.{SqlCondition, alias_of, leaf_of}
use Rattle.path_lowering.specs.Placed.{standing_by}
use Rattle.path_lowering.specs.Shortest.{spot_at, last_place, candidate_laid}
use Rattle.path_lowering.proofs.AnswerLemmas.{spots_many}
use Rattle.path_lowering.proofs.Lists.{append-nil}
use Rattle.path_lowering.proofs.SourceLemmas.{from_tables, items_numbered}
use Rattle.path_lowering.proofs.TupleLemmas.{AreNumbered}
use Rattle.shortest_lowering.specs.Comparable.{candidate_spots}
use Rattle.shortest_lowering.specs.NoShorter.{ArePlain, IsOn, IsFormed}
use Rattle.shortest_lowering.specs.PathCandidates.{path_select, key_at, path_candidate}
use Rattle.shortest_lowering.proofs.OwnLeaves.{own_leaves}
use Rattle.shortest_lowering.proofs.PairTuples.{spot_items}
use Rattle.shortest_lowering.proofs.StandingLemmas.{items_enough}

numbered_aliases : (at : ℕ) (items : List FromItem) → AreNumbered 83 at items → map (λ item. item.alias) items ≡ map (alias_of 83) (range_with_len at (length items))
numbered_aliases at [] h = refl
numbered_aliases at (item ∷ items) h =
    let next : suc at ≡ at + 1 = omega arith in
    ap₂ (λ a more. a ∷ more) h.0 (numbered_aliases (suc at) items h.1 ∙ ap (λ n. map (alias_of 83) (range_with_len n (length items))) next)

-- where the items are numbered, each place begins its own
own_whole : (kind : Kind) (ns : List ℕ) (at : ℕ) → own_spots at (spots_along kind ns (range_with_len at (length ns))) ≡ spots_along kind ns (range_with_len at (length ns))
own_whole kind [] at = refl
own_whole kind (n ∷ ns) at =
    let next : suc at ≡ at + 1 = omega arith in
    let spot : Spot = record { kind = kind; element = n; item = at } in
    let rest : List Spot = spots_along (other_kind kind) ns (range_with_len (at + 1) (length ns)) in
    ap (λ b. cond b (spot ∷ own_spots (suc at) rest) (own_spots at rest)) (eq-eqb at at refl)
    ∙ ap (λ l. spot ∷ l) (ap (λ m. own_spots m rest) next ∙ own_whole (other_kind kind) ns (at + 1))

module _ (catalog : Catalog) (graph : Graph) (path : CheckedPath) (part : PathBlock) where
  abbrev own : Laid
  own = candidate_laid catalog graph apart path part

  abbrev spots : List Spot
  spots = candidate_spots part

  abbrev sources : List Source
  sources = sources_of catalog graph 83 (laid_spots (own ∷ []))

  abbrev conditions : List SqlCondition
  conditions = block_conditions catalog graph 83 (singletons_of path) (own ∷ []) None

  abbrev select : Select
  select = path_select catalog graph path part

  abbrev no_spot : Spot
  no_spot = record { kind = Vertex; element = 0; item = 0 }

  many : length spots ≡ length part.elements
  many = spots_many Vertex part.elements (numbers_below (length part.elements)) (items_enough (length part.elements))

  count : length select.from ≡ length part.elements
  count =
      sym (length-map select.from (λ item. item.table)) ∙ ap length (from_tables sources conditions) ∙ length-map sources (λ source. source.table)
      ∙ length-map (own_spots 0 (laid_spots (own ∷ []))) (source_of catalog graph 83)
      ∙ ap (λ l. length (own_spots 0 l)) (append-nil spots) ∙ ap length (own_whole Vertex part.elements 0) ∙ many

  plain : ArePlain select.conjuncts
  plain = record { conditions = standing_by (map (λ source. source.alias) sources) 0 conditions; are = refl }

  item_is : (k : ℕ) → k < length part.elements → (spot_at spots k).item ≡ k
  item_is k below =
      let zeroth : 0 + k ≡ k = omega arith in
      sym (get_or-map (λ spot. spot.item) spots k no_spot 0 (subst (λ n. k < n) (sym many) below)) ∙ ap (λ l. get_or l k 0) (spot_items part)
      ∙ get_or-range_with_len 0 (length part.elements) k 0 below ∙ zeroth

  key_on : (k : ℕ) → k < length part.elements → (leaf : ColumnLeaf) → IsIn leaf (key_at catalog graph (spot_at spots k)) → IsOn select.from k leaf
  key_on k below leaf h =
      let of = from_map (leaf_of catalog graph 83 (spot_at spots k)) leaf (element_at graph (spot_at spots k)).key h in
      (subst (λ n. k < n) (sym count) below, ap (λ (l : ColumnLeaf). l.alias) (sym of.2) ∙ ap (alias_of 83) (item_is k below))

  pub candidate_formed : 1 ≤ length part.elements → select_is_sound catalog select [] ≡ true → IsFormed (path_candidate catalog graph path part)
  candidate_formed some sound =
      let leaves = own_leaves catalog select plain sound in
      record {
        aliases = numbered_aliases 0 select.from (items_numbered catalog graph 83 (laid_spots (own ∷ [])) conditions);
        plain = plain;
        columns = leaves.columns;
        members = leaves.members;
        conditions = leaves.conditions;
        first_key = key_on 0 (omega (arith, some));
        last_key = λ leaf h.
            subst (λ n. IsOn select.from (n - 1) leaf) (many ∙ sym count) (key_on (length spots - 1) (omega (arith, some, many)) leaf h);
      }
