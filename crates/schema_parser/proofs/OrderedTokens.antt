-- Tokens in order, and what is made of two of them.
use Rattle.std.proofs.Common.{ℕ, ◌≤◌, List, [], ◌∷◌, ◌++◌, arith}
use Rattle.sql_lexer.specs.declared.token.Token.{Token}
use Rattle.sql_lexer.specs.Texts.{AreInOrder}
use Rattle.graph_ast.specs.Spans.{LiesIn}

pub not_before : (at end : ℕ) (ts : List Token) → AreInOrder at end ts → at ≤ end
not_before at end [] h = h
not_before at end (t ∷ ts) (a, b, c) =
    let rest : t.span.to ≤ end = not_before t.span.to end ts c in
    omega (arith, a, b, rest)

-- the place between the two parts
pub cut : (at end : ℕ) (ts us : List Token) → AreInOrder at end (ts ++ us) → (middle : ℕ) × AreInOrder at middle ts × AreInOrder middle end us
cut at end [] us h = (at, omega arith, h)
cut at end (t ∷ ts) us (a, b, c) =
    let r = cut t.span.to end ts us c in
    (r.0, (a, b, r.1), r.2)

longer : (at middle end : ℕ) (ts : List Token) → middle ≤ end → AreInOrder at middle ts → AreInOrder at end ts
longer at middle end [] le h = omega (arith, le, h)
longer at middle end (t ∷ ts) le (a, b, c) = (a, b, longer t.span.to middle end ts le c)

-- in order, and no further than there
abbrev pub EndBy : ℕ → List Token → Type 0
EndBy end ts = (at : ℕ) × AreInOrder at end ts

pub left_part : (end : ℕ) (ts us : List Token) → EndBy end (ts ++ us) → EndBy end ts
left_part end ts us (at, h) =
    let c = cut at end ts us h in
    (at, longer at c.0 end ts (not_before c.0 end us c.2) c.1)

pub right_part : (end : ℕ) (ts us : List Token) → EndBy end (ts ++ us) → EndBy end us
right_part end ts us (at, h) =
    let c = cut at end ts us h in
    (c.0, c.2)

pub lies : (end : ℕ) (t : Token) → EndBy end (t ∷ []) → LiesIn end t.span
lies end t (at, (a, b, c)) = (omega (arith, b), c)
