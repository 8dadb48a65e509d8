-- A candidate is laid out, with an item for each place.
use Rattle.std.proofs.Common.{◌≡◌, ℕ, zero, suc, ◌+◌, ◌≤◌, ◌<◌, ◌^◌, true, List, [], ◌∷◌, ◌++◌, map, length, take, refl, sym, ap, ap₂, subst, ◌∙◌, inl, inr, arith, nat_eq, None}
use Rattle.std.proofs.Common.{Some}
use Rattle.std.specs.List.{AllZip, AllByRecursion, range_with_len}
use Rattle.std.proofs.lemmas.List.FromFn.{length-range_with_len}
use Rattle.pgq_base.specs.declared.value.Value.TheVariants.{Number}
use Rattle.pgq_base.specs.Instances.{InstanceRows}
use Rattle.multisets.specs.Bags.{IsIn}
use Rattle.expr_tree.specs.Leaves.{EachLeaf}
use Rattle.expr_tree.proofs.FormLemmas.{leaves}
use Rattle.graph_ast.specs.declared.catalog.Catalog.{Catalog}
use Rattle.graph_ast.specs.declared.catalog.Graph.{Graph}
use Rattle.graph_ast.specs.declared.checked.CheckedPath.{CheckedPath}
use Rattle.graph_ast.specs.declared.checked.CheckedQuery.{CheckedQuery}
use Rattle.graph_ast.specs.declared.checked.Output.{Output}
use Rattle.graph_ast.specs.declared.blocks.Tags.{Tags}
use Rattle.graph_ast.specs.declared.blocks.PathBlock.{PathBlock}
use Rattle.graph_ast.specs.Catalogs.{IsValidGraph}
use Rattle.graph_ast.specs.Fits.{Fits}
use Rattle.graph_meaning.specs.Lists.{numbers_below, agree}
use Rattle.graph_meaning.specs.Choices.{Condition, expansion_of, singletons_of}
use Rattle.graph_meaning.specs.Blocks.{path_blocks}
use Rattle.graph_meaning.proofs.Members.{both_parts}
use Rattle.path_lowering.specs.declared.spots.Kind.TheVariants.{Vertex}
use Rattle.path_lowering.specs.Spots.{same_kind}
use Rattle.path_lowering.specs.Blocks.{Laid, IsPlain, shared_item, plan_after, plan_of, alternatives_of}
use Rattle.path_lowering.specs.Selects.{IsLaidOut, IsBlockLaid}
use Rattle.path_lowering.specs.Lowered.{Combining, IsCombining, IsLowerable}
use Rattle.path_lowering.specs.Shortest.{one_column, candidate_laid}
use Rattle.path_lowering.proofs.Lists.{append-nil}
use Rattle.path_lowering.proofs.BlockLemmas.{numbers_along}
use Rattle.path_lowering.proofs.AnswerLemmas.{spots_many}
use Rattle.path_lowering.proofs.KindLemmas.{path_kinds, kinds_agree}
use Rattle.path_lowering.proofs.LaidLemmas.{items_along, belongs, elements_there, some_number}

-- over no singleton each place has the next item
none_shared : (tags : Tags) (earlier : List (Tags × ℕ)) → shared_item [] tags earlier ≡ None
none_shared tags [] = refl
none_shared tags (e ∷ earlier) = none_shared tags earlier

own_items : (earlier : List (Tags × ℕ)) (next : ℕ) (tags : List Tags) → plan_after [] earlier next tags ≡ range_with_len next (length tags)
own_items earlier next [] = refl
own_items earlier next (t ∷ ts) =
    let after : suc next ≡ next + 1 = omega arith in
    ap (λ o. elim o [ Some item ↦ item ∷ plan_after [] (earlier ++ (t, item) ∷ []) next ts | None ↦ next ∷ plan_after [] (earlier ++ (t, next) ∷ []) (suc next) ts ])
    (none_shared t earlier)
    ∙ ap (λ l. next ∷ l) (own_items (earlier ++ (t, next) ∷ []) (suc next) ts ∙ ap (λ n. range_with_len n (length ts)) after)

take_whole : {X : Type 0} (xs : List X) (n : ℕ) → n ≡ length xs → take n xs ≡ xs
take_whole [] zero h = refl
take_whole [] (suc n) h = absurd (omega (arith, h))
take_whole (x ∷ xs) zero h = absurd (omega (arith, h))
take_whole (x ∷ xs) (suc n) h = ap (λ l. x ∷ l) (take_whole xs n (omega (arith, h)))

module _ (catalog : Catalog) (graph : Graph) (valid : IsValidGraph catalog graph) (instance : InstanceRows) (fits : Fits catalog instance) (query : CheckedQuery)
    (ok : IsLowerable graph query)
    (combined : Combining) (combines : IsCombining combined) (path : CheckedPath) (among : IsIn path query.paths) (place : ℕ) (other : PathBlock)
    (there : IsIn other (path_blocks graph place path))
    (few : length other.elements < 2 ^ 32) where
  abbrev own : Laid
  own = candidate_laid catalog graph combined path other

  abbrev items : List ℕ
  items = numbers_below (length other.elements)

  known : Rattle.path_lowering.proofs.LaidLemmas.Belongs catalog graph valid instance fits query ok path other
  known = belongs catalog graph valid instance fits query ok path place other among there

  pub many : length items ≡ length other.elements
  many = length-range_with_len 0 (length other.elements)

  enough : length other.elements ≤ length items
  enough = omega (arith, many)

  spots_are : own.spots ++ [] ≡ own.spots
  spots_are = append-nil own.spots

  size : length (own.spots ++ []) ≡ length other.elements
  size = ap length spots_are ∙ spots_many Vertex other.elements items enough

  tags_are : other.tags ++ [] ≡ other.tags
  tags_are = append-nil other.tags

  planned : map (λ spot. spot.item) (own.spots ++ []) ≡ plan_of [] (other.tags ++ [])
  planned =
      ap (map (λ spot. spot.item)) spots_are ∙ items_along Vertex other.elements items enough ∙ take_whole items (length other.elements) (sym many)
      ∙ ap (range_with_len 0) (sym known.many) ∙ sym (own_items [] 0 other.tags) ∙ ap (plan_of []) (sym tags_are)

  numbers : agree nat_eq (singletons_of path) (other.tags ++ []) (map (λ spot. spot.element) (own.spots ++ [])) ≡ true
  numbers =
      ap₂ (agree nat_eq (singletons_of path)) (tags_are ∙ sym known.shape.tags) (ap (map (λ spot. spot.element)) spots_are ∙ numbers_along Vertex other.elements items enough)
      ∙ (both_parts _ _ known.shape.feasible).1

  kinds : agree same_kind (singletons_of path) (other.tags ++ []) (map (λ spot. spot.kind) (own.spots ++ [])) ≡ true
  kinds =
      ap₂ (agree same_kind (singletons_of path)) (tags_are ∙ sym known.shape.tags) (ap (map (λ spot. spot.kind)) spots_are)
      ∙ kinds_agree query ok.kinds (singletons_of path) _ (map (λ spot. spot.kind) own.spots)
      (path_kinds query path among known.shape.choice known.shape.there other.elements items known.shape.sized enough)

  laid_out : (one : Laid) → IsIn one (own ∷ []) → IsLaidOut catalog graph 83 (singletons_of path) one
  laid_out one (inr h) = absurd h
  laid_out one (inl e) =
      subst (λ (l : Laid). IsLaidOut catalog graph 83 (singletons_of path) l) e (record {
        items = items;
        many = enough;
        spots = refl;
        part = known.is_part;
        says = combines (alternatives_of catalog graph 83 path other own.spots);
        tags_many = known.many;
        edges = (expansion_of path known.shape.choice).edges;
        sized = known.shape.sized;
        names_in = λ name k. k;
      })

  plain_column : (output : Output) → IsIn output (one_column ∷ []) → EachLeaf IsPlain output.value
  plain_column output (inr h) = absurd h
  plain_column output (inl e) = subst (λ (o : Output). EachLeaf IsPlain o.value) e
      (subst (AllByRecursion IsPlain) (sym (leaves.literal (Number (Rattle.std.specs.Prelude.pos 1)))) tt)

  pub candidate_is_laid : IsBlockLaid catalog graph 83 (singletons_of path) (own ∷ []) None (one_column ∷ [])
  candidate_is_laid = record {
    some = subst (λ n. 1 ≤ n) (sym size) (some_number catalog graph valid instance fits query ok other.elements known.fitting.numbers);
    few = subst (λ n. n < 2 ^ 32) (sym size) few;
    elements = λ spot h. elements_there catalog graph valid instance fits query ok other.elements items known.fitting.numbers spot (subst (IsIn spot) spots_are h);
    parts_laid = laid_out;
    shared = [];
    among = λ name h. absurd h;
    planned = planned;
    numbers = numbers;
    kinds = kinds;
    plain = λ c h. none_some h;
    plain_outputs = plain_column;
  }
    where
      none_some : {c : Condition} → None ≡ Some c → EachLeaf IsPlain c
      none_some h = cc
