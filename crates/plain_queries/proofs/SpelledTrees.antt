-- Expressions that can be written: what is spelled of their nodes, whatever stands at the leaves.
use Rattle.std.proofs.Common.{◌≡◌, refl, sym, subst, ◌∙◌, Bool, true, ◌&&◌, is_some, List, [], ◌∷◌, map}
use Rattle.std.specs.List.{list_all}
use Rattle.pgq_base.specs.declared.value.Value.{Value}
use Rattle.pgq_base.specs.declared.value.Value.TheVariants as value
use Rattle.pgq_base.specs.Values.{class_of_value}
use Rattle.expr_tree.specs.declared.tree.Expr.{Expr, Expr-F, map-Expr, fold-Expr, fold-roll-Expr, ind-Expr}
use Rattle.expr_tree.specs.declared.tree.Expr.TheVariants as v
use Rattle.expr_tree.specs.Classes.{is_filled}
use Rattle.expr_tree.specs.Mapping.{map_step, mapped}
use Rattle.expr_tree.proofs.Folds.{at_layer, fused}
use Rattle.graph_ast.specs.declared.checked.PropertyLeaf.{PropertyLeaf}
use Rattle.graph_meaning.proofs.Members.{both_parts, both_true}
use Rattle.sql_algebra.specs.Printable.{is_literal, has_one, has_two, all_true}
use Rattle.path_lowering.specs.SoundTexts as lowering
use Rattle.pattern_check.specs.Lowerable as weak

-- literals have a text, AND, OR and COALESCE have two members or more, a list of IN has one or more
abbrev pub spelled_step : {L : Type 0} → Expr-F L Bool → Bool
spelled_step (Expr-F.Lit v) = is_literal v
spelled_step (Expr-F.Null c) = true
spelled_step (Expr-F.Leaf leaf) = true
spelled_step (Expr-F.Compare op a b) = a && b
spelled_step (Expr-F.All es) = has_two es && all_true es
spelled_step (Expr-F.Any es) = has_two es && all_true es
spelled_step (Expr-F.Not a) = a
spelled_step (Expr-F.Is a test negated) = a
spelled_step (Expr-F.InList a es negated) = a && (has_one es && all_true es)
spelled_step (Expr-F.Between a b c negated) = a && (b && c)
spelled_step (Expr-F.Coalesce es) = has_two es && all_true es

abbrev pub is_spelled : {L : Type 0} → Expr L → Bool
is_spelled {L} = fold-Expr L Bool spelled_step

-- ---- leaves replaced

module _ {L : Type 0} (leaf : L → PropertyLeaf) where
  abbrev in_text : Expr PropertyLeaf → Bool
  in_text = fold-Expr PropertyLeaf Bool lowering.spelled_step

  each : (x : Expr-F L (Expr PropertyLeaf)) → in_text (map_step (λ l. v.Leaf (leaf l)) x) ≡ spelled_step (map-Expr L (Expr PropertyLeaf) Bool in_text x)
  each (Expr-F.Lit a) = at_layer lowering.spelled_step (Expr-F.Lit a) (v.Lit a) (v.rolls-Lit a)
  each (Expr-F.Null c) = at_layer lowering.spelled_step (Expr-F.Null c) (v.Null c) (v.rolls-Null c)
  each (Expr-F.Leaf l) = at_layer lowering.spelled_step (Expr-F.Leaf (leaf l)) (v.Leaf (leaf l)) (v.rolls-Leaf (leaf l))
  each (Expr-F.Compare op a b) = at_layer lowering.spelled_step (Expr-F.Compare op a b) (v.Compare op a b) (v.rolls-Compare op a b)
  each (Expr-F.All es) = at_layer lowering.spelled_step (Expr-F.All es) (v.All es) (v.rolls-All es)
  each (Expr-F.Any es) = at_layer lowering.spelled_step (Expr-F.Any es) (v.Any es) (v.rolls-Any es)
  each (Expr-F.Not a) = at_layer lowering.spelled_step (Expr-F.Not a) (v.Not a) (v.rolls-Not a)
  each (Expr-F.Is a t n) = at_layer lowering.spelled_step (Expr-F.Is a t n) (v.Is a t n) (v.rolls-Is a t n)
  each (Expr-F.InList a es n) = at_layer lowering.spelled_step (Expr-F.InList a es n) (v.InList a es n) (v.rolls-InList a es n)
  each (Expr-F.Between a b c n) = at_layer lowering.spelled_step (Expr-F.Between a b c n) (v.Between a b c n) (v.rolls-Between a b c n)
  each (Expr-F.Coalesce es) = at_layer lowering.spelled_step (Expr-F.Coalesce es) (v.Coalesce es) (v.rolls-Coalesce es)

  -- replacing leaves keeps what is spelled
  pub mapped_spelled : (e : Expr L) → is_spelled e ≡ true → lowering.IsSpelled (mapped (λ l. v.Leaf (leaf l)) e)
  mapped_spelled e h = fused in_text (map_step (λ l. v.Leaf (leaf l))) spelled_step each e ∙ h

-- ---- what is asked of lowerable queries

some_class : (a : Value) → is_literal a ≡ true → is_some (class_of_value a) ≡ true
some_class value.Null h = absurd cc
some_class (value.Truth b) h = refl
some_class (value.Number n) h = refl
some_class (value.Decimal d) h = refl
some_class (value.Date d) h = refl
some_class (value.Text t) h = refl

filled_one : {A : Type 0} (es : List A) → has_one es ≡ true → is_filled es ≡ true
filled_one [] h = h
filled_one (e ∷ es) h = refl

filled_two : {A : Type 0} (es : List A) → has_two es ≡ true → is_filled es ≡ true
filled_two [] h = h
filled_two (e ∷ es) h = refl

module _ (L : Type 0) where
  abbrev is_weak : Expr L → Bool
  is_weak = fold-Expr L Bool weak.spelled_step

  abbrev Told : Expr L → Type 0
  Told e = is_spelled e ≡ true → is_weak e ≡ true

  abbrev Child : Type 0
  Child = (e : Expr L) × Told e

  abbrev bare : Child → Expr L
  bare c = c.0

  abbrev strong_of : List Child → List Bool
  strong_of cs = map is_spelled (map bare cs)

  abbrev weak_of : List Child → List Bool
  weak_of cs = map is_weak (map bare cs)

  all_weak : (cs : List Child) → all_true (strong_of cs) ≡ true → list_all (λ b. b) (weak_of cs) ≡ true
  all_weak [] h = refl
  all_weak (c ∷ cs) h =
      let two = both_parts (is_spelled c.0) (all_true (strong_of cs)) h in
      both_true (is_weak c.0) (list_all (λ b. b) (weak_of cs)) (c.1 two.0) (all_weak cs two.1)

  same_filled : (cs : List Child) → is_filled (strong_of cs) ≡ is_filled (weak_of cs)
  same_filled [] = refl
  same_filled (c ∷ cs) = refl

  abbrev Layer : Expr-F L (Expr L) → Type 0
  Layer x = spelled_step (map-Expr L (Expr L) Bool is_spelled x) ≡ true → weak.spelled_step (map-Expr L (Expr L) Bool is_weak x) ≡ true

  layer : (y : Expr-F L Child) → Layer (map-Expr L Child (Expr L) bare y)
  layer (Expr-F.Lit a) h = some_class a h
  layer (Expr-F.Null c) h = refl
  layer (Expr-F.Leaf l) h = refl
  layer (Expr-F.Compare op a b) h =
      let two = both_parts (is_spelled a.0) (is_spelled b.0) h in
      both_true (is_weak a.0) (is_weak b.0) (a.1 two.0) (b.1 two.1)
  layer (Expr-F.All es) h = all_weak es (both_parts (has_two (strong_of es)) (all_true (strong_of es)) h).1
  layer (Expr-F.Any es) h = all_weak es (both_parts (has_two (strong_of es)) (all_true (strong_of es)) h).1
  layer (Expr-F.Not a) h = a.1 h
  layer (Expr-F.Is a t n) h = a.1 h
  layer (Expr-F.InList a es n) h =
      let two = both_parts (is_spelled a.0) (has_one (strong_of es) && all_true (strong_of es)) h in
      let more = both_parts (has_one (strong_of es)) (all_true (strong_of es)) two.1 in
      both_true (is_weak a.0) (is_filled (weak_of es) && list_all (λ b. b) (weak_of es)) (a.1 two.0)
      (both_true (is_filled (weak_of es)) (list_all (λ b. b) (weak_of es)) (sym (same_filled es) ∙ filled_one (strong_of es) more.0) (all_weak es more.1))
  layer (Expr-F.Between a b c n) h =
      let two = both_parts (is_spelled a.0) (is_spelled b.0 && is_spelled c.0) h in
      let more = both_parts (is_spelled b.0) (is_spelled c.0) two.1 in
      both_true (is_weak a.0) (is_weak b.0 && is_weak c.0) (a.1 two.0) (both_true (is_weak b.0) (is_weak c.0) (b.1 more.0) (c.1 more.1))
  layer (Expr-F.Coalesce es) h =
      let two = both_parts (has_two (strong_of es)) (all_true (strong_of es)) h in
      both_true (is_filled (weak_of es)) (list_all (λ b. b) (weak_of es)) (sym (same_filled es) ∙ filled_two (strong_of es) two.0) (all_weak es two.1)

  -- what is spelled has no literal Null, and its lists have a member
  pub spelled_weak : (e : Expr L) → Told e
  spelled_weak = ind-Expr L Told (λ x y is h.
      fold-roll-Expr L Bool weak.spelled_step x ∙ subst Layer is (layer y) (sym (fold-roll-Expr L Bool spelled_step x) ∙ h))
