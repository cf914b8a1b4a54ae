-- The computed form is the one that the tokens spell, and it is computed wherever they spell one but a check line.
use Rattle.std.proofs.Common.{◌≡◌, ℕ, ◌+◌, Bool, true, false, cond, true≢false, List, [], ◌∷◌, Option, Some, None, refl, ap, sym, subst, ◌∙◌, ◌⊎◌, inl, inr}
use Rattle.std.specs.Prelude.{codes}
use Rattle.lit_syntax.specs.declared.symbol.Symbol.TheVariants.{Gives, OpenBracket, CloseBracket}
use Rattle.lit_syntax.specs.Syntax.{Window, Uint8, Uint16, Uint32, DataView8, DataView16, DataView32, is_data_view, Load, Store, Exchange, CompareExchange, If}
use Rattle.lit_syntax.specs.Tokens.{Token, Word, Number, Sign}
use Rattle.lit_syntax.specs.Written.{Written}
use Rattle.lit_syntax.specs.Forms.{Form, Blank, TestLine, BytesLine, AgentLine, StatementLine, IfLine, ElseLine, EndLine, CheckLine, read_tokens, store_tokens, window_word, spelled, IsForm}
use Rattle.lit_read.specs.Internal.Marks.{IsSpelling}
use Rattle.lit_read.specs.Faults.{is_check_line}
use Rattle.lit_read.specs.Internal.FirstToken.{or_else}
use Rattle.lit_read.specs.Internal.FormOfTokens.{after_sign, word_of, number_of, after_word, register_of, register_number, view_of, window_named, relation_of, ended, Item, front, ToldParts, in_parts}
use Rattle.lit_read.specs.Internal.FormOfTokens.{test_row, test_made, bytes_row, bytes_made, agent_row, agent_made, if_row, if_made, else_row, else_made, end_row, end_made}
use Rattle.lit_read.specs.Internal.FormOfTokens.{plain_load_parts, plain_load_made, plain_store_parts, plain_store_made, atomic_load_parts, atomic_load_made, atomic_store_parts, atomic_store_made}
use Rattle.lit_read.specs.Internal.FormOfTokens.{exchange_parts, exchange_made, compare_exchange_parts, compare_exchange_made}
use Rattle.lit_read.specs.Internal.FormOfTokens.{byte_load_parts, byte_load_made, byte_store_parts, byte_store_made, wide_load_parts, wide_load_made, wide_store_parts, wide_store_made}
use Rattle.lit_read.specs.Internal.FormOfTokens.{test_line, agent_line, bytes_line, if_line, else_line, end_line, plain_load, plain_store, atomic_load, atomic_store, exchange, compare_exchange}
use Rattle.lit_read.specs.Internal.FormOfTokens.{byte_load, byte_store, wide_load, wide_store, frame_form, array_form, view_form, fixed_form}
use Rattle.lit_read.proofs.RowLemmas.{parts_row, PartsFit, in_parts_is, register_number_again}

-- ---- a form that is computed is spelled

read_typed : (w : Window) (index : ℕ) → is_data_view w ≡ false → read_tokens w index ≡ Word (window_word w) ∷ Sign OpenBracket ∷ Number index ∷ Sign CloseBracket ∷ []
read_typed Uint8 index typed = refl
read_typed Uint16 index typed = refl
read_typed Uint32 index typed = refl
read_typed DataView8 index typed = absurd cc
read_typed DataView16 index typed = absurd cc
read_typed DataView32 index typed = absurd cc

stored_typed : (w : Window) (index value : ℕ) → is_data_view w ≡ false → store_tokens w index value ≡ parts_row plain_store_parts ((w, (index, tt)), ((value, tt), tt))
stored_typed Uint8 index value typed = refl
stored_typed Uint16 index value typed = refl
stored_typed Uint32 index value typed = refl
stored_typed DataView8 index value typed = absurd cc
stored_typed DataView16 index value typed = absurd cc
stored_typed DataView32 index value typed = absurd cc

by_parts : (parts : List (List Item)) (ts : List Token) (made : ToldParts parts → Form) (f : Form) → ((told : ToldParts parts) → PartsFit parts told → IsSpelling (parts_row parts told) (made told)) → in_parts parts ts made ≡ Some f → IsSpelling ts f
by_parts parts ts made f spells e =
    let a = in_parts_is parts ts made f e in
    subst (IsSpelling ts) a.is (subst (λ (x : List Token). IsSpelling x (made a.told)) (sym a.spells) (spells a.told a.fits))

blank_is : (ts : List Token) (f : Form) → ended ts Blank ≡ Some f → IsSpelling ts f
unfolding spelled IsForm
blank_is [] f e = let same : Blank ≡ f = cc in subst (IsSpelling []) same (refl, tt)
blank_is (t ∷ ts) f e = absurd cc

either : {A : Type 0} (o p : Option A) (y : A) → or_else o p ≡ Some y → (o ≡ Some y) ⊎ (p ≡ Some y)
either None p y e = inr e
either (Some x) p y e = inl e

one_of : (ts : List Token) (f : Form) (o p : Option Form) → (o ≡ Some f → IsSpelling ts f) → (p ≡ Some f → IsSpelling ts f) → or_else o p ≡ Some f → IsSpelling ts f
one_of ts f o p left right h = elim (either o p f h) [ inl a ↦ left a | inr b ↦ right b ]

frame_is : (ts : List Token) (f : Form) → frame_form ts ≡ Some f → IsSpelling ts f
unfolding frame_form test_line bytes_line agent_line if_line else_line end_line spelled IsForm
frame_is ts f e =
    one_of ts f _ _ (blank_is ts f) (one_of ts f _ _ (by_parts (test_row ∷ []) ts test_made f (λ told fits. (refl, tt)))
    (one_of ts f _ _ (by_parts (bytes_row ∷ []) ts bytes_made f (λ told fits. (refl, tt))) (one_of ts f _ _ (by_parts (agent_row ∷ []) ts agent_made f (λ told fits. (refl, tt)))
    (one_of ts f _ _ (by_parts (if_row ∷ []) ts if_made f (λ told fits. (refl, fits.0.0))) (one_of ts f _ _ (by_parts (else_row ∷ []) ts else_made f (λ told fits. (refl, tt)))
    (by_parts (end_row ∷ []) ts end_made f (λ told fits. (refl, tt)))))))) e

array_is : (ts : List Token) (f : Form) → array_form ts ≡ Some f → IsSpelling ts f
unfolding array_form plain_load plain_store atomic_load atomic_store exchange compare_exchange spelled IsForm
array_is ts f e =
    let read : (told : ToldParts plain_load_parts) → PartsFit plain_load_parts told → IsSpelling (parts_row plain_load_parts told) (plain_load_made told) =
    λ told fits. (sym (ap (λ (x : List Token). Word (114 ∷ (48 + told.0.0) ∷ []) ∷ Sign Gives ∷ x) (read_typed told.1.0.0 told.1.0.1.0 fits.1.0.0)), (fits.0.0, λ h. absurd (cc))) in
    one_of ts f _ _ (by_parts plain_load_parts ts plain_load_made f read)
    (one_of ts f _ _ (by_parts plain_store_parts ts plain_store_made f (λ told fits. (sym (stored_typed told.0.0 told.0.1.0 told.1.0.0 fits.0.0), λ h. absurd (cc))))
    (one_of ts f _ _ (by_parts atomic_load_parts ts atomic_load_made f (λ told fits. (refl, (fits.0.0, λ h. fits.1.0.0))))
    (one_of ts f _ _ (by_parts atomic_store_parts ts atomic_store_made f (λ told fits. (refl, λ h. fits.0.0)))
    (one_of ts f _ _ (by_parts exchange_parts ts exchange_made f (λ told fits. (refl, (fits.0.0, fits.1.0.0))))
    (by_parts compare_exchange_parts ts compare_exchange_made f (λ told fits. (refl, (fits.0.0, fits.1.0.0)))))))) e

view_is : (ts : List Token) (f : Form) → view_form ts ≡ Some f → IsSpelling ts f
unfolding view_form byte_load byte_store wide_load wide_store spelled IsForm
view_is ts f e =
    one_of ts f _ _ (by_parts byte_load_parts ts byte_load_made f (λ told fits. (refl, (fits.0.0, λ h. absurd (cc)))))
    (one_of ts f _ _ (by_parts (wide_load_parts (codes "getUint16")) ts (wide_load_made (codes "getUint16") DataView16) f (λ told fits. (refl, (fits.0.0, λ h. absurd (cc)))))
    (one_of ts f _ _ (by_parts (wide_load_parts (codes "getUint32")) ts (wide_load_made (codes "getUint32") DataView32) f (λ told fits. (refl, (fits.0.0, λ h. absurd (cc)))))
    (one_of ts f _ _ (by_parts byte_store_parts ts byte_store_made f (λ told fits. (refl, λ h. absurd (cc))))
    (one_of ts f _ _ (by_parts (wide_store_parts (codes "setUint16")) ts (wide_store_made (codes "setUint16") DataView16) f (λ told fits. (refl, λ h. absurd (cc))))
    (by_parts (wide_store_parts (codes "setUint32")) ts (wide_store_made (codes "setUint32") DataView32) f (λ told fits. (refl, λ h. absurd (cc)))))))) e

pub fixed_form_is : (ts : List Token) (f : Form) → fixed_form ts ≡ Some f → IsSpelling ts f
unfolding fixed_form
fixed_form_is ts f e = one_of ts f (frame_form ts) _ (frame_is ts f) (one_of ts f (array_form ts) (view_form ts) (array_is ts f) (view_is ts f)) e

-- ---- a form that is spelled is computed, unless it is a check line

pub fixed_form_again : (f : Form) → IsForm f → fixed_form (spelled f) ≡ cond (is_check_line f) None (Some f)
unfolding fixed_form frame_form test_line bytes_line agent_line if_line else_line end_line array_form plain_load plain_store atomic_load atomic_store exchange compare_exchange view_form byte_load byte_store wide_load wide_store front after_sign word_of number_of after_word register_of register_number view_of window_named relation_of spelled IsForm
fixed_form_again Blank is = refl
fixed_form_again (TestLine name) is = refl
fixed_form_again (BytesLine bytes) is = refl
fixed_form_again (AgentLine name) is = refl
fixed_form_again (IfLine reg true value) is = rw (register_number_again reg is)
fixed_form_again (IfLine reg false value) is = rw (register_number_again reg is)
fixed_form_again ElseLine is = refl
fixed_form_again EndLine is = refl
fixed_form_again (CheckLine w) is = refl
fixed_form_again (StatementLine (Load reg Uint8 index false)) is = rw (register_number_again reg is.0)
fixed_form_again (StatementLine (Load reg Uint16 index false)) is = rw (register_number_again reg is.0)
fixed_form_again (StatementLine (Load reg Uint32 index false)) is = rw (register_number_again reg is.0)
fixed_form_again (StatementLine (Load reg DataView8 index false)) is = rw (register_number_again reg is.0)
fixed_form_again (StatementLine (Load reg DataView16 index false)) is = rw (register_number_again reg is.0)
fixed_form_again (StatementLine (Load reg DataView32 index false)) is = rw (register_number_again reg is.0)
fixed_form_again (StatementLine (Load reg Uint8 index true)) is = rw (register_number_again reg is.0)
fixed_form_again (StatementLine (Load reg Uint16 index true)) is = rw (register_number_again reg is.0)
fixed_form_again (StatementLine (Load reg Uint32 index true)) is = rw (register_number_again reg is.0)
fixed_form_again (StatementLine (Load reg DataView8 index true)) is = absurd (true≢false (is.1 refl))
fixed_form_again (StatementLine (Load reg DataView16 index true)) is = absurd (true≢false (is.1 refl))
fixed_form_again (StatementLine (Load reg DataView32 index true)) is = absurd (true≢false (is.1 refl))
fixed_form_again (StatementLine (Store Uint8 index value false)) is = refl
fixed_form_again (StatementLine (Store Uint16 index value false)) is = refl
fixed_form_again (StatementLine (Store Uint32 index value false)) is = refl
fixed_form_again (StatementLine (Store DataView8 index value false)) is = refl
fixed_form_again (StatementLine (Store DataView16 index value false)) is = refl
fixed_form_again (StatementLine (Store DataView32 index value false)) is = refl
fixed_form_again (StatementLine (Store Uint8 index value true)) is = refl
fixed_form_again (StatementLine (Store Uint16 index value true)) is = refl
fixed_form_again (StatementLine (Store Uint32 index value true)) is = refl
fixed_form_again (StatementLine (Store DataView8 index value true)) is = absurd (true≢false (is refl))
fixed_form_again (StatementLine (Store DataView16 index value true)) is = absurd (true≢false (is refl))
fixed_form_again (StatementLine (Store DataView32 index value true)) is = absurd (true≢false (is refl))
fixed_form_again (StatementLine (Exchange reg Uint8 index value)) is = rw (register_number_again reg is.0)
fixed_form_again (StatementLine (Exchange reg Uint16 index value)) is = rw (register_number_again reg is.0)
fixed_form_again (StatementLine (Exchange reg Uint32 index value)) is = rw (register_number_again reg is.0)
fixed_form_again (StatementLine (Exchange reg DataView8 index value)) is = absurd (true≢false is.1)
fixed_form_again (StatementLine (Exchange reg DataView16 index value)) is = absurd (true≢false is.1)
fixed_form_again (StatementLine (Exchange reg DataView32 index value)) is = absurd (true≢false is.1)
fixed_form_again (StatementLine (CompareExchange reg Uint8 index expected value)) is = rw (register_number_again reg is.0)
fixed_form_again (StatementLine (CompareExchange reg Uint16 index expected value)) is = rw (register_number_again reg is.0)
fixed_form_again (StatementLine (CompareExchange reg Uint32 index expected value)) is = rw (register_number_again reg is.0)
fixed_form_again (StatementLine (CompareExchange reg DataView8 index expected value)) is = absurd (true≢false is.1)
fixed_form_again (StatementLine (CompareExchange reg DataView16 index expected value)) is = absurd (true≢false is.1)
fixed_form_again (StatementLine (CompareExchange reg DataView32 index expected value)) is = absurd (true≢false is.1)
fixed_form_again (StatementLine (If reg equal value body other)) is = absurd is

pub check_of : (f : Form) → is_check_line f ≡ true → (w : Written) × (f ≡ CheckLine w)
check_of (CheckLine w) e = (w, refl)
check_of Blank e = absurd cc
check_of (TestLine name) e = absurd cc
check_of (BytesLine bytes) e = absurd cc
check_of (AgentLine name) e = absurd cc
check_of (StatementLine s) e = absurd cc
check_of (IfLine reg equal value) e = absurd cc
check_of ElseLine e = absurd cc
check_of EndLine e = absurd cc

-- tokens of which no form but a check line is computed
pub fixed_form_absent : (ts : List Token) (f : Form) → fixed_form ts ≡ None → IsSpelling ts f → (w : Written) × (f ≡ CheckLine w)
fixed_form_absent ts f none is = check_of f (by (is_check_line f) (sym none ∙ ap fixed_form is.0 ∙ fixed_form_again f is.1))
  where
    by : (t : Bool) → None ≡ cond t None (Some f) → t ≡ true
    by true e = refl
    by false e = absurd cc
