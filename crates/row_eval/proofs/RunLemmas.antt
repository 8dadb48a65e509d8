-- How what is found is put out, step by step.
use Rattle.std.proofs.Common.{◌≡◌, ℕ, suc, ◌+◌, ◌<◌, cond, ◌&&◌, Bool, true, false, List, [], ◌∷◌, ◌++◌, map, drop, length, get_or, refl, sym, ap, ◌∙◌, arith, Option, Some, None}
use Rattle.std.proofs.Common.{append_assoc}
use Rattle.std.specs.List.{list_all, fold}
use Rattle.std.specs.Hash.FoldHasher as folding
use Rattle.std.specs.declared.hash.FoldHasher.{FoldHasher}
use Rattle.std.specs.declared.cmp.Ordering.{Ordering}
use Rattle.std.specs.declared.cmp.Ordering.TheVariants as order
use Rattle.std.proofs.lemmas.Bool.{and_parts}
use Rattle.std.proofs.lemmas.List.{append-nil, map-append, length-append}
use Rattle.std.proofs.lemmas.List.Sums.{sum_by-cons}
use Rattle.pgq_base.specs.declared.rows.Row.{Row}
use Rattle.pgq_base.specs.declared.value.Value.{Value}
use Rattle.pgq_base.specs.declared.value.Value.TheVariants as value
use Rattle.pgq_base.specs.Values.{compared}
use Rattle.pgq_base.specs.declared.truth.Truth3.TheVariants.{Unknown}
use Rattle.pgq_base.specs.Instances.{RowValues, TableRows, InstanceRows, rows_at}
use Rattle.pgq_base.proofs.ValueOrder.{comparison_tells}
use Rattle.expr_tree.specs.declared.tree.Comparison.TheVariants.{Equal}
use Rattle.expr_tree.specs.Meaning.{holds, known}
use Rattle.sql_algebra.specs.Tuples.{is_true}
use Rattle.row_eval.specs.declared.frame.Output.{Output}
use Rattle.row_eval.specs.declared.access.Access.{Access}
use Rattle.row_eval.specs.declared.access.Tied.{Tied}
use Rattle.row_eval.specs.Stored.{row_values}
use Rattle.row_eval.specs.Slots.{Stack, slot_value}
use Rattle.row_eval.specs.Access.{agree, column_value, matches_row, rows_among}
use Rattle.row_eval.specs.Served.{code_from, code_of, row_code, stack_code, is_null, writes}
use Rattle.row_eval.specs.Branches.{Advances}
use Rattle.row_eval.specs.Stages.{found_on, visits_on, output_row, Collects}
use Rattle.row_eval.proofs.StageLemmas.{drop_next}

-- ---- what is put out

module _ (outputs : List Output) (limit : ℕ) where
  values_long : (xs : List Row) → length (row_values xs) ≡ length xs
  values_long [] = refl
  values_long (x ∷ xs) = ap suc (values_long xs)

  outputs_long : (xs : List Stack) → length (map (output_row outputs) xs) ≡ length xs
  outputs_long [] = refl
  outputs_long (x ∷ xs) = ap suc (outputs_long xs)

  due_long : (rows : List Row) (xs : List Stack) → length (row_values rows ++ map (output_row outputs) xs) ≡ length rows + length xs
  due_long rows xs =
      length-append (row_values rows) (map (output_row outputs) xs)
      ∙ ap (λ n. n + length (map (output_row outputs) xs)) (values_long rows) ∙ ap (λ n. length rows + n) (outputs_long xs)

  pub stays : (out : List Row) (all : List Stack) → Advances outputs limit out out all all true
  stays out all = (refl, λ h. h)

  -- one part after another
  pub further : (a b c : List Row) (xs ys zs : List Stack) (all : Bool) → Advances outputs limit a b xs ys true → Advances outputs limit b c ys zs all
      → Advances outputs limit a c xs zs all
  further a b c xs ys zs true first second = (second.0 ∙ first.0, λ h. second.1 (first.1 h))
  further a b c xs ys zs false first second = (let long : length b + length ys ≡ length a + length xs = sym (due_long b ys) ∙ ap length first.0 ∙ due_long a xs in
      omega (arith, second, long))

  -- before more stacks
  pub beside : (a b : List Row) (xs ys more : List Stack) (all : Bool) → Advances outputs limit a b xs ys all → Advances outputs limit a b (xs ++ more) (ys ++ more) all
  beside a b xs ys more true h = (longer b ys ∙ ap (λ l. l ++ map (output_row outputs) more) h.0 ∙ sym (longer a xs), h.1)
    where
      longer : (rows : List Row) (zs : List Stack) → row_values rows ++ map (output_row outputs) (zs ++ more)
          ≡ (row_values rows ++ map (output_row outputs) zs) ++ map (output_row outputs) more
      longer rows zs = ap (λ l. row_values rows ++ l) (map-append (output_row outputs) zs more)
          ∙ sym (append_assoc (row_values rows) (map (output_row outputs) zs) (map (output_row outputs) more))
  beside a b xs ys more false h = omega (arith, h, length-append xs more)

  pub ended : (a b : List Row) (xs : List Stack) (all : Bool) → Advances outputs limit a b xs [] all → Collects outputs limit a b xs all
  ended a b xs true h = (sym (append-nil (row_values b)) ∙ h.0, h.1)
  ended a b xs false h = h

  pub begun : (a b : List Row) (xs : List Stack) (all : Bool) → Collects outputs limit a b xs all → Advances outputs limit a b xs [] all
  begun a b xs true h = (append-nil (row_values b) ∙ h.0, h.1)
  begun a b xs false h = h

  -- too many are too many, whatever is left
  pub stopped : (a b : List Row) (xs ys zs : List Stack) (all : Bool) → all ≡ false → Advances outputs limit a b xs ys all → Advances outputs limit a b xs zs false
  stopped a b xs ys zs true is h = absurd cc
  stopped a b xs ys zs false is h = h

-- ---- the rows of a group

module _ (instance : InstanceRows) (access : Access) (s : Stack) where
  abbrev table : TableRows
  table = rows_at instance access.table

  pub among_next : (group : List ℕ) (i : ℕ) → i < length group
      → rows_among instance access s (drop i group)
      ≡ cond (matches_row access s (get_or table (get_or group i 0) [])) (get_or table (get_or group i 0) [] ∷ rows_among instance access s (drop (i + 1) group))
      (rows_among instance access s (drop (i + 1) group))
  among_next group i h = ap (rows_among instance access s) (drop_next group i 0 h)

-- ---- one turn of the loop over a group

module _ (instance : InstanceRows) (access : Access) (s : Stack) (group : List ℕ) (i : ℕ) (h : i < length group) where
  abbrev row : RowValues
  row = get_or (rows_at instance access.table) (get_or group i 0) []

  abbrev later : TableRows
  later = rows_among instance access s (drop (i + 1) group)

  taken : matches_row access s row ≡ true → rows_among instance access s (drop i group) ≡ row ∷ later
  taken m = among_next instance access s group i h ∙ ap (λ b. cond b (row ∷ later) later) m

  passed : matches_row access s row ≡ false → rows_among instance access s (drop i group) ≡ later
  passed m = among_next instance access s group i h ∙ ap (λ b. cond b (row ∷ later) later) m

  pub found_taken : (rest : Stack → List Stack) → matches_row access s row ≡ true
      → found_on rest s (rows_among instance access s (drop i group)) ≡ rest (s ++ row ∷ []) ++ found_on rest s later
  found_taken rest m = ap (found_on rest s) (taken m)

  pub found_passed : (rest : Stack → List Stack) → matches_row access s row ≡ false
      → found_on rest s (rows_among instance access s (drop i group)) ≡ found_on rest s later
  found_passed rest m = ap (found_on rest s) (passed m)

  module _ (rest : Stack → ℕ) where
    pub visits_taken : matches_row access s row ≡ true → visits_on rest s (rows_among instance access s (drop i group)) ≡ (1 + rest (s ++ row ∷ [])) + visits_on rest s later
    visits_taken m = ap (visits_on rest s) (taken m) ∙ sum_by-cons (λ n. n) (1 + rest (s ++ row ∷ [])) (map (λ r. 1 + rest (s ++ r ∷ [])) later)

    pub visits_passed : matches_row access s row ≡ false → visits_on rest s (rows_among instance access s (drop i group)) ≡ visits_on rest s later
    visits_passed m = ap (visits_on rest s) (passed m)

pub seen : (access : Access) (t s : Stack) (lent table : TableRows) (place : ℕ) (b c : Bool) → t ≡ s → lent ≡ table
    → b ≡ matches_row access t (get_or lent place []) → b ≡ c → matches_row access s (get_or table place []) ≡ c
seen access t s lent table place b c same rows is known =
    ap (λ x. matches_row access x (get_or table place [])) (sym same) ∙ ap (λ r. matches_row access t (get_or r place [])) (sym rows) ∙ sym is ∙ known

pub same_some : {X : Type 0} (x y : X) (o : Option X) → o ≡ Some x → o ≡ Some y → x ≡ y
same_some x y o e f = let same : Some x ≡ Some y = sym e ∙ f in cc

-- ---- codes

and_no : (b : Bool) → (b && false) ≡ false
and_no true = refl
and_no false = refl

known_equal : (o : Ordering) → is_true (known (holds Equal o)) ≡ true → o ≡ order.Equal
known_equal order.Equal h = refl
known_equal order.Less h = absurd cc
known_equal order.Greater h = absurd cc

told_equal : (o : Option Ordering) → is_true (elim o [ Some p ↦ known (holds Equal p) | None ↦ Unknown ]) ≡ true → o ≡ Some order.Equal
told_equal None h = absurd cc
told_equal (Some p) h = ap Some (known_equal p h)

pub agree_equal : (a b : Value) → agree a b ≡ true → a ≡ b
agree_equal a b h = ((comparison_tells a b).0 (told_equal (compared a b) h)).0

null_apart : (a b : Value) → is_null b ≡ true → agree a b ≡ false
null_apart value.Null value.Null h = refl
null_apart (value.Truth a) value.Null h = refl
null_apart (value.Number a) value.Null h = refl
null_apart (value.Decimal a) value.Null h = refl
null_apart (value.Text a) value.Null h = refl
null_apart (value.Date a) value.Null h = refl
null_apart a (value.Truth b) h = absurd cc
null_apart a (value.Number b) h = absurd cc
null_apart a (value.Decimal b) h = absurd cc
null_apart a (value.Text b) h = absurd cc
null_apart a (value.Date b) h = absurd cc

module _ (s : Stack) (row : RowValues) where
  abbrev ties : List Tied → Bool
  ties tied = list_all (λ (t : Tied). agree (column_value row t.own) (slot_value s t.other)) tied

  values_equal : (tied : List Tied) → ties tied ≡ true → map (λ (t : Tied). column_value row t.own) tied ≡ map (λ (t : Tied). slot_value s t.other) tied
  values_equal [] h = refl
  values_equal (t ∷ ts) h =
      let two = and_parts (agree (column_value row t.own) (slot_value s t.other)) (ties ts) h in
      ap (λ x. x ∷ map (λ (t : Tied). column_value row t.own) ts) (agree_equal (column_value row t.own) (slot_value s t.other) two.0)
      ∙ ap (λ xs. slot_value s t.other ∷ xs) (values_equal ts two.1)

  pub codes_equal : (tied : List Tied) → ties tied ≡ true → row_code tied row ≡ stack_code tied s
  codes_equal tied h = ap code_of (values_equal tied h)

  pub no_ties : (hasher : FoldHasher) (tied : List Tied) → code_from hasher (map (λ (t : Tied). slot_value s t.other) tied) ≡ None → ties tied ≡ false
  no_ties hasher [] h = absurd cc
  no_ties hasher (t ∷ ts) h = go (is_null (slot_value s t.other)) refl h (λ (other : FoldHasher). no_ties other ts)
    where
      go : (b : Bool) → is_null (slot_value s t.other) ≡ b
          → cond b None (code_from (fold folding.write hasher (writes (slot_value s t.other))) (map (λ (t : Tied). slot_value s t.other) ts)) ≡ None
          → ((other : FoldHasher) → code_from other (map (λ (t : Tied). slot_value s t.other) ts) ≡ None → ties ts ≡ false)
          → (agree (column_value row t.own) (slot_value s t.other) && ties ts) ≡ false
      go true e k behind = ap (λ b. b && ties ts) (null_apart (column_value row t.own) (slot_value s t.other) e)
      go false e k behind = ap (λ b. agree (column_value row t.own) (slot_value s t.other) && b) (behind (fold folding.write hasher (writes (slot_value s t.other))) k)
          ∙ and_no (agree (column_value row t.own) (slot_value s t.other))
