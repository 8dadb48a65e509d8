-- When two values, and two lists of values, are equal in SQL's sense.
use Rattle.std.proofs.Common.{◌≡◌, Bool, true, false, not, ◌&&◌, ◌||◌, List, ◌∷◌, refl, sym, Ordering, Less, Equal, Greater}
use Rattle.std.specs.Ordering.{is_eq}
use Rattle.std.specs.Cmp.Lexicographic.{slice_cmp}
use Rattle.pgq_base.specs.declared.value.Value.{Value}
use Rattle.pgq_base.specs.declared.value.Value.TheVariants.{Null, Truth, Number, Decimal, Text, Date}
use Rattle.pgq_base.specs.Values.{value_order}
use Rattle.pgq_base.specs.Instances.{same_value, same_values}
use Rattle.expr_tree.specs.declared.tree.Comparison.TheVariants as op
use Rattle.expr_tree.specs.Meaning.{known, holds, compare_by}
use Rattle.graph_ast.specs.Fits.{is_null}
use Rattle.sql_algebra.specs.Tuples.{is_true}

equal_holds : (o : Ordering) → is_true (known (holds op.Equal o)) ≡ is_eq o
equal_holds Less = refl
equal_holds Equal = refl
equal_holds Greater = refl

differ_holds : (o : Ordering) → is_true (known (holds op.NotEqual o)) ≡ not (is_eq o)
differ_holds Less = refl
differ_holds Equal = refl
differ_holds Greater = refl

-- `a = b` is True where they are the same, and b is not Null
pub equals : (a b : Value) → is_null b ≡ false → is_true (compare_by op.Equal a b) ≡ same_value a b
equals Null Null h = sym h
equals Null (Truth b) h = refl
equals Null (Number b) h = refl
equals Null (Decimal b) h = refl
equals Null (Text b) h = refl
equals Null (Date b) h = refl
equals (Truth a) Null h = refl
equals (Truth a) (Truth b) h = equal_holds (value_order (Truth a) (Truth b))
equals (Truth a) (Number b) h = refl
equals (Truth a) (Decimal b) h = refl
equals (Truth a) (Text b) h = refl
equals (Truth a) (Date b) h = refl
equals (Number a) Null h = refl
equals (Number a) (Truth b) h = refl
equals (Number a) (Number b) h = equal_holds (value_order (Number a) (Number b))
equals (Number a) (Decimal b) h = equal_holds (value_order (Number a) (Decimal b))
equals (Number a) (Text b) h = refl
equals (Number a) (Date b) h = refl
equals (Decimal a) Null h = refl
equals (Decimal a) (Truth b) h = refl
equals (Decimal a) (Number b) h = equal_holds (value_order (Decimal a) (Number b))
equals (Decimal a) (Decimal b) h = equal_holds (value_order (Decimal a) (Decimal b))
equals (Decimal a) (Text b) h = refl
equals (Decimal a) (Date b) h = refl
equals (Text a) Null h = refl
equals (Text a) (Truth b) h = refl
equals (Text a) (Number b) h = refl
equals (Text a) (Decimal b) h = refl
equals (Text a) (Text b) h = equal_holds (value_order (Text a) (Text b))
equals (Text a) (Date b) h = refl
equals (Date a) Null h = refl
equals (Date a) (Truth b) h = refl
equals (Date a) (Number b) h = refl
equals (Date a) (Decimal b) h = refl
equals (Date a) (Text b) h = refl
equals (Date a) (Date b) h = equal_holds (value_order (Date a) (Date b))

-- `a <> b` is True where they are not, and neither is Null
pub differs : (a b : Value) → is_null a ≡ false → is_null b ≡ false → is_true (compare_by op.NotEqual a b) ≡ not (same_value a b)
differs Null b g h = cc
differs (Truth a) Null g h = cc
differs (Truth a) (Truth b) g h = differ_holds (value_order (Truth a) (Truth b))
differs (Truth a) (Number b) g h = refl
differs (Truth a) (Decimal b) g h = refl
differs (Truth a) (Text b) g h = refl
differs (Truth a) (Date b) g h = refl
differs (Number a) Null g h = cc
differs (Number a) (Truth b) g h = refl
differs (Number a) (Number b) g h = differ_holds (value_order (Number a) (Number b))
differs (Number a) (Decimal b) g h = differ_holds (value_order (Number a) (Decimal b))
differs (Number a) (Text b) g h = refl
differs (Number a) (Date b) g h = refl
differs (Decimal a) Null g h = cc
differs (Decimal a) (Truth b) g h = refl
differs (Decimal a) (Number b) g h = differ_holds (value_order (Decimal a) (Number b))
differs (Decimal a) (Decimal b) g h = differ_holds (value_order (Decimal a) (Decimal b))
differs (Decimal a) (Text b) g h = refl
differs (Decimal a) (Date b) g h = refl
differs (Text a) Null g h = cc
differs (Text a) (Truth b) g h = refl
differs (Text a) (Number b) g h = refl
differs (Text a) (Decimal b) g h = refl
differs (Text a) (Text b) g h = differ_holds (value_order (Text a) (Text b))
differs (Text a) (Date b) g h = refl
differs (Date a) Null g h = cc
differs (Date a) (Truth b) g h = refl
differs (Date a) (Number b) g h = refl
differs (Date a) (Decimal b) g h = refl
differs (Date a) (Text b) g h = refl
differs (Date a) (Date b) g h = differ_holds (value_order (Date a) (Date b))

cons_order : (a b : Value) (xs ys : List Value) (o : Ordering) → value_order a b ≡ o
    → is_eq (slice_cmp value_order (a ∷ xs) (b ∷ ys)) ≡ (is_eq o && is_eq (slice_cmp value_order xs ys))
cons_order a b xs ys Less e = rw e refl
cons_order a b xs ys Equal e = rw e refl
cons_order a b xs ys Greater e = rw e refl

pub same_cons : (a b : Value) (xs ys : List Value) → same_values (a ∷ xs) (b ∷ ys) ≡ (same_value a b && same_values xs ys)
same_cons a b xs ys = cons_order a b xs ys (value_order a b) refl

pub not_and : (a b : Bool) → not (a && b) ≡ (not a || not b)
not_and true b = refl
not_and false b = refl
