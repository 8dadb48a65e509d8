-- What a set of rows holds after an insertion.
use Rattle.std.proofs.Common.{◌≡◌, Bool, true, false, List, [], ◌∷◌, refl, sym, ap, ◌∙◌, Ordering, Less, Equal, Greater}
use Rattle.std.specs.Prelude.{◌||◌}
use Rattle.std.specs.List.{list_any}
use Rattle.std.specs.BTreeSet.{insert_key}
use Rattle.std.specs.Ordering.{match_ordering}
use Rattle.pgq_base.specs.Values.{value_order}
use Rattle.pgq_base.specs.Instances.{RowValues, same_values}
use Rattle.pgq_base.proofs.ValueOrder.{exact_value, exact_list, value_itself}
use Rattle.distinct_rows.specs.declared.keys.RowKey.{RowKey}
use Rattle.distinct_rows.specs.KeyOrder.{key_order, row_order, values_in}

exact_row : (a b : RowValues) → row_order a b ≡ Equal → a ≡ b
exact_row = exact_list value_order exact_value value_itself

or_twice : (a r : Bool) → (a || r) ≡ (a || (a || r))
or_twice true r = refl
or_twice false r = refl

or_turned : (a b r : Bool) → (a || (b || r)) ≡ (b || (a || r))
or_turned true true r = refl
or_turned true false r = refl
or_turned false true r = refl
or_turned false false r = refl

pub held_inserted : (key : RowKey) (keys : List RowKey) (values : RowValues)
    → list_any (λ k. same_values values (values_in k)) (insert_key key_order keys key)
    ≡ (same_values values (values_in key) || list_any (λ k. same_values values (values_in k)) keys)
held_inserted key [] values = refl
held_inserted key (x ∷ xs) values = by (key_order key x) refl (held_inserted key xs values)
  where
    p : RowKey → Bool
    p k = same_values values (values_in k)

    by : (o : Ordering) → key_order key x ≡ o → list_any p (insert_key key_order xs key) ≡ (p key || list_any p xs)
        → list_any p (match_ordering o (key ∷ (x ∷ xs)) (x ∷ xs) (x ∷ insert_key key_order xs key)) ≡ (p key || (p x || list_any p xs))
    by Less e more = refl
    by Equal e more =
        let same : same_values values (values_in key) ≡ same_values values (values_in x) = ap (same_values values) (exact_row (values_in key) (values_in x) e) in
        or_twice (p x) (list_any p xs) ∙ ap (λ b. b || (p x || list_any p xs)) (sym same)
    by Greater e more = ap (λ b. p x || b) more ∙ or_turned (p x) (p key) (list_any p xs)
