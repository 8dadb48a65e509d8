-- When expressions over columns, and aliases, have a text.
use Rattle.std.proofs.Common.{◌≡◌, ℕ, ◌<◌, ◌≤◌, ◌^◌, Bool, true, ◌&&◌, List, [], ◌∷◌, map, length, sym, subst, ◌∙◌, decimal, arith}
use Rattle.std.specs.List.{list_all}
use Rattle.std.proofs.Math.ListN.{length-map}
use Rattle.std.proofs.lemmas.Bool.{le-leb}
use Rattle.std.proofs.lemmas.Fmt.{IsAscii-decimal, length-decimal-le}
use Rattle.std.proofs.lemmas.List.Folds.{list_all-map}
use Rattle.std.proofs.lemmas.Str.{IsUtf8-from_ascii, is_utf8-from_IsUtf8}
use Rattle.std.proofs.lemmas.Str.Ascii.{IsAscii-cons, IsAscii-nil}
use Rattle.pgq_base.specs.declared.value.Class.{Class}
use Rattle.pgq_base.specs.declared.value.Value.TheVariants as value
use Rattle.expr_tree.specs.declared.tree.Comparison.{Comparison}
use Rattle.expr_tree.specs.declared.tree.Expr.{Expr-F, map-Expr}
use Rattle.expr_tree.specs.declared.tree.Expr.TheVariants as v
use Rattle.expr_tree.specs.Leaves.{EachLeaf}
use Rattle.expr_tree.specs.Mapping.{map_step, mapped}
use Rattle.expr_tree.proofs.Folds.{at_layer, AtLeaf, fused_on}
use Rattle.graph_ast.specs.declared.checked.PropertyLeaf.{PropertyLeaf}
use Rattle.graph_meaning.specs.Choices.{Condition}
use Rattle.sql_algebra.specs.declared.tree.ColumnLeaf.{ColumnLeaf}
use Rattle.sql_algebra.specs.Printable.{is_name, has_one, has_two, all_true, value_step, value_is_printable}
use Rattle.sql_algebra.proofs.Folds.{on-Lit, on-Null, on-Leaf, on-Compare, on-All, on-Any}
use Rattle.path_lowering.specs.Emitted.{SqlCondition, alias_of}
use Rattle.path_lowering.specs.SoundTexts.{spelled_step, IsSpelled}
use Rattle.path_lowering.proofs.PlacingLemmas.{and_join}

pub one_there : {A : Type 0} (xs : List A) → 1 ≤ length xs → has_one xs ≡ true
one_there xs h = le-leb 1 (length xs) h

-- the alias of an item is a name
pub alias_is_name : (prefix number : ℕ) → prefix < 128 → number < 2 ^ 32 → is_name (alias_of prefix number) ≡ true
alias_is_name prefix number low few =
    let long : length (decimal number) ≤ 10 = length-decimal-le 10 number (omega arith) (omega arith) (omega arith) in
    and_join _ _ (le-leb 1 (length (alias_of prefix number)) (omega arith))
    (and_join _ _ (le-leb (length (alias_of prefix number)) 128 (omega (arith, long)))
    (is_utf8-from_IsUtf8 (alias_of prefix number) (IsUtf8-from_ascii (alias_of prefix number) (IsAscii-cons prefix (decimal number) low (IsAscii-decimal number (omega arith))))))

-- a letter is a name
pub letter_is_name : (letter : ℕ) → letter < 128 → is_name (letter ∷ []) ≡ true
letter_is_name letter low =
    and_join _ _ (one_there (letter ∷ []) (omega arith))
    (and_join _ _ (le-leb (length (letter ∷ [])) 128 (omega arith))
    (is_utf8-from_IsUtf8 (letter ∷ []) (IsUtf8-from_ascii (letter ∷ []) (IsAscii-cons letter [] low IsAscii-nil))))

pub leaf_printable : (leaf : ColumnLeaf) → is_name leaf.alias ≡ true → is_name leaf.column ≡ true → value_is_printable (v.Leaf leaf) ≡ true
leaf_printable leaf p q = on-Leaf value_step leaf ∙ and_join _ _ p q

pub null_printable : (c : Class) → value_is_printable (v.Null c) ≡ true
null_printable c = on-Null value_step c

pub truth_printable : (b : Bool) → value_is_printable (v.Lit (value.Truth b)) ≡ true
truth_printable b = on-Lit value_step (value.Truth b)

pub pair_printable : (op : Comparison) (a b : SqlCondition) → value_is_printable a ≡ true → value_is_printable b ≡ true → value_is_printable (v.Compare op a b) ≡ true
pair_printable op a b p q = on-Compare value_step op a b ∙ and_join _ _ p q

members_printable : (es : List SqlCondition) → 2 ≤ length es → list_all value_is_printable es ≡ true
    → (has_two (map value_is_printable es) && all_true (map value_is_printable es)) ≡ true
members_printable es two h =
    and_join _ _ (le-leb 2 (length (map value_is_printable es)) (subst (λ n. 2 ≤ n) (sym (length-map es value_is_printable)) two)) (list_all-map (λ b. b) value_is_printable es ∙ h)

pub all_printable : (es : List SqlCondition) → 2 ≤ length es → list_all value_is_printable es ≡ true → value_is_printable (v.All es) ≡ true
all_printable es two h = on-All value_step es ∙ members_printable es two h

pub any_printable : (es : List SqlCondition) → 2 ≤ length es → list_all value_is_printable es ≡ true → value_is_printable (v.Any es) ≡ true
any_printable es two h = on-Any value_step es ∙ members_printable es two h

-- an expression whose leaves become what has a text
module _ (to : PropertyLeaf → SqlCondition) where
  spelled_each : (x : Expr-F PropertyLeaf SqlCondition) → AtLeaf (λ l. value_is_printable (to l) ≡ true) x
      → value_is_printable (map_step to x) ≡ spelled_step (map-Expr PropertyLeaf SqlCondition Bool value_is_printable x)
  spelled_each (Expr-F.Lit x) at = at_layer value_step (Expr-F.Lit x) _ (v.rolls-Lit x)
  spelled_each (Expr-F.Null c) at = at_layer value_step (Expr-F.Null c) _ (v.rolls-Null c)
  spelled_each (Expr-F.Leaf l) at = at
  spelled_each (Expr-F.Compare op a b) at = at_layer value_step (Expr-F.Compare op a b) _ (v.rolls-Compare op a b)
  spelled_each (Expr-F.All es) at = at_layer value_step (Expr-F.All es) _ (v.rolls-All es)
  spelled_each (Expr-F.Any es) at = at_layer value_step (Expr-F.Any es) _ (v.rolls-Any es)
  spelled_each (Expr-F.Not a) at = at_layer value_step (Expr-F.Not a) _ (v.rolls-Not a)
  spelled_each (Expr-F.Is a t n) at = at_layer value_step (Expr-F.Is a t n) _ (v.rolls-Is a t n)
  spelled_each (Expr-F.InList a es n) at = at_layer value_step (Expr-F.InList a es n) _ (v.rolls-InList a es n)
  spelled_each (Expr-F.Between a b c n) at = at_layer value_step (Expr-F.Between a b c n) _ (v.rolls-Between a b c n)
  spelled_each (Expr-F.Coalesce es) at = at_layer value_step (Expr-F.Coalesce es) _ (v.rolls-Coalesce es)

  pub mapped_printable : (e : Condition) → EachLeaf (λ l. value_is_printable (to l) ≡ true) e → IsSpelled e → value_is_printable (mapped to e) ≡ true
  mapped_printable e each spelled = fused_on (λ l. value_is_printable (to l) ≡ true) value_is_printable (map_step to) spelled_step spelled_each e each ∙ spelled
