-- The pieces of a cutting, and the numbers in several of them.
use Rattle.std.proofs.Common.{◌≡◌, ℕ, ◌+◌, ◌*◌, ◌/◌, ◌<◌, ◌≤◌, Bool, true, false, ◌||◌, List, [], ◌∷◌, ◌++◌, min, refl, sym, ap, subst, ◌∙◌, arith}
use Rattle.std.specs.Prelude.{IsTrue, Contains}
use Rattle.std.specs.List.{list_any}
use Rattle.std.proofs.lemmas.Grind.{div_ceil_times}
use Rattle.std.proofs.lemmas.List.Folds.{list_any-append, list_any_at}
use Rattle.std.proofs.Math.Nat.{div-mul-le_self, div-lt_iff_lt-mul, mul-le-mul_right}
use mathlib.Core.Path.{fun_ext}
use Rattle.lit_search.specs.Report.{in_range, in_either}
use Rattle.lit_search.proofs.NumberSets.{before_end, same_test, within}
use Rattle.lit_share.specs.Pieces.{pieces_of, piece_start, piece_end, in_piece, in_pieces}
use Rattle.std.proofs.Math.Bool.{or-false}

-- ---- pieces
-- the piece of a number
pub piece_at : (total cut n : ℕ) → 0 < cut → n < total → (i : ℕ) × (i < pieces_of total cut) × IsTrue (in_piece total cut i n)
piece_at total cut n some inside =
    let i = n / cut in
    let low : i * cut ≤ n = div-mul-le_self n cut in
    let high : n < (i + 1) * cut = (div-lt_iff_lt-mul {k = cut} {x = n} {y = i + 1} some).0 (omega arith) in
    let reach = (div_ceil_times total cut some).0 in
    let few : i < pieces_of total cut = (div-lt_iff_lt-mul {k = cut} {x = n} {y = pieces_of total cut} some).1 (omega (arith, reach, inside)) in
    (i, few, within (i * cut) (min ((i + 1) * cut) total) n low (omega arith))

-- the range that a piece is
pub same_piece : (total known cut i start end : ℕ) → known ≡ total → start ≡ piece_start cut i → end ≡ piece_end known cut i → in_range start end ≡ in_piece total cut i
same_piece total known cut i start end value starts ends =
    ap (λ (k : ℕ). in_range k end) starts ∙ ap (λ (k : ℕ). in_range (piece_start cut i) k) (ends ∙ ap (λ (k : ℕ). piece_end k cut i) value)

-- pieces behind one begin behind its end
pub start_behind : (cut i n : ℕ) → i ≤ n → i * cut ≤ n * cut
start_behind cut i n le = mul-le-mul_right cut le

-- ---- several pieces
pub pieces_more : (total cut : ℕ) (drawn : List ℕ) (i : ℕ) → in_either (in_pieces total cut drawn) (in_range (piece_start cut i) (piece_end total cut i)) ≡ in_pieces total cut (drawn ++ i ∷ [])
pieces_more total cut drawn i =
    fun_ext (λ m. sym (list_any-append (λ k. in_piece total cut k m) drawn (i ∷ []) ∙ ap (λ b. list_any (λ k. in_piece total cut k m) drawn || b) (or-false (in_piece total cut i m))))

pub pieces_joined : (total cut : ℕ) (xs ys : List ℕ) → in_either (in_pieces total cut xs) (in_pieces total cut ys) ≡ in_pieces total cut (xs ++ ys)
pieces_joined total cut xs ys = fun_ext (λ m. sym (list_any-append (λ k. in_piece total cut k m) xs ys))

some_piece : (total cut m : ℕ) (xs : List ℕ) → IsTrue (in_pieces total cut xs m) → (i : ℕ) × IsTrue (in_piece total cut i m)
some_piece total cut m [] h = absurd (let e : false ≡ true = h in cc)
some_piece total cut m (x ∷ xs) h = by (in_piece total cut x m) refl (some_piece total cut m xs) h
  where
    by : (b : Bool) → in_piece total cut x m ≡ b → (IsTrue (in_pieces total cut xs m) → (i : ℕ) × IsTrue (in_piece total cut i m)) → IsTrue (b || in_pieces total cut xs m) → (i : ℕ) × IsTrue (in_piece total cut i m)
    by true is rest k = (x, is)
    by false is rest k = rest k

-- all pieces have the numbers below the total
pub pieces_all : (total cut : ℕ) (drawn : List ℕ) → 0 < cut → ((i : ℕ) → i < pieces_of total cut → Contains drawn i) → in_pieces total cut drawn ≡ in_range 0 total
pieces_all total cut drawn some all = fun_ext (λ m. same_test (in_pieces total cut drawn m) (in_range 0 total m) (there m) (back m))
  where
    there : (m : ℕ) → IsTrue (in_pieces total cut drawn m) → IsTrue (in_range 0 total m)
    there m h =
        let p = some_piece total cut m drawn h in
        within 0 total m (omega arith) (omega (arith, before_end (piece_start cut p.0) (piece_end total cut p.0) m p.1))

    back : (m : ℕ) → IsTrue (in_range 0 total m) → IsTrue (in_pieces total cut drawn m)
    back m h =
        let p = piece_at total cut m some (before_end 0 total m h) in
        let c = all p.0 p.1 in
        list_any_at (λ k. in_piece total cut k m) drawn c.0 p.0 c.1 (subst (λ k. in_piece total cut k m ≡ true) (sym c.2) p.2)
