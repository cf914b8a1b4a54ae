-- When the relations of what is given are broken: with more bytes given, and byte by byte.
use Rattle.std.proofs.Common.{◌↔◌, ℕ, Bool, true, false, not, List, inl, inr, sym, ◌∙◌, arith}
use Rattle.std.proofs.lemmas.Bool.{cases_eq}
use Rattle.std.specs.Bool.{IsTrue}
use Rattle.lit_paths.specs.declared.event.Event.{Event}
use Rattle.lit_rel.specs.declared.given.SourcedByte.{SourcedByte}
use Rattle.lit_rel.specs.Broken.{BytesStayBroken, HasIncoherentByteBy, HasTornReadBy, IsBrokenBy}
use Rattle.lit_rel.specs.Coherent.{HasCoherentReads}
use Rattle.lit_rel.specs.Growth.{GivenBy}
use Rattle.lit_rel.specs.HappensBefore.{HappensBefore, HappensBeforeBy}
use Rattle.lit_rel.specs.Internal.Given.{AreFirstReads, HasByteSo, HasTornBytes, IsIncoherent, sources_of}
use Rattle.lit_rel.specs.ReadsFrom.{ReadsByteFrom}
use Rattle.lit_rel.specs.TearFree.{HasTearFreeReads}
use Rattle.lit_rel.proofs.GrowthLemmas.{Grows-from}
use Rattle.lit_rel.proofs.SameRelations.{coherent_read_by}
use Rattle.lit_rel.proofs.SourceLemmas.{byte_at, read_at}

-- a broken part stays broken
pub IsBrokenBy-grows : (events : List Event) (less more : ℕ → ℕ → ℕ → Type 0) → ((r b w : ℕ) → less r b w → more r b w) → IsBrokenBy events less → IsBrokenBy events more
IsBrokenBy-grows events less more to (inl cycle) = inl (cycle.0, (Grows-from events less more to).happens_before cycle.0 cycle.0 cycle.1)
IsBrokenBy-grows events less more to (inr (inl bad)) = inr (inl record {
  read = bad.read;
  byte = bad.byte;
  source = bad.source;
  is_given = to bad.read bad.byte bad.source bad.is_given;
  incoherent = λ c. bad.incoherent (coherent_read_by events (HappensBeforeBy events more) (HappensBeforeBy events less) (Grows-from events less more to).happens_before bad.read bad.byte bad.source c);
})
IsBrokenBy-grows events less more to (inr (inr torn)) = inr (inr record {
  read = torn.read;
  source = torn.source;
  other = torn.other;
  first = record { reads = (torn.first.reads.0, to torn.read torn.first.reads.0 torn.source torn.first.reads.1); can = torn.first.can };
  second = record { reads = (torn.second.reads.0, to torn.read torn.second.reads.0 torn.other torn.second.reads.1); can = torn.second.can };
  two_sources = torn.two_sources;
})

pub bytes_stay_broken : BytesStayBroken
bytes_stay_broken = record {
  sets = λ events less more to. IsBrokenBy-grows events (GivenBy less) (GivenBy more) to;
  into_lists = λ events less sources to. IsBrokenBy-grows events (GivenBy less) (ReadsByteFrom events sources) to;
}

module _ (events : List Event) (bytes : List SourcedByte) (first : AreFirstReads events bytes) where
  abbrev given : ℕ → ℕ → ℕ → Type 0
  given = ReadsByteFrom events (sources_of bytes)

  -- a byte that is not coherent, by rows that are happens-before
  pub incoherent-iff : (before : ℕ → ℕ → Type 0) → ((e d : ℕ) → before e d ↔ HappensBefore events (sources_of bytes) e d) → HasByteSo bytes (IsIncoherent events before) ↔ HasIncoherentByteBy events given
  incoherent-iff before same = (to, from)
    where
      to : HasByteSo bytes (IsIncoherent events before) → HasIncoherentByteBy events given
      to h = record {
        read = h.byte.read;
        byte = h.byte.byte;
        source = h.byte.source;
        is_given = read_at events bytes first h.place h.byte h.at_place;
        incoherent = λ c. h.is_so (coherent_read_by events (HappensBefore events (sources_of bytes)) before (λ e d. (same e d).0) h.byte.read h.byte.byte h.byte.source c);
      }

      from : HasIncoherentByteBy events given → HasByteSo bytes (IsIncoherent events before)
      from bad =
          let found = byte_at events bytes first bad.read bad.byte bad.source bad.is_given in
          let p = found.1 in
          record {
            place = found.0;
            byte = p;
            at_place = found.2;
            is_so = rw (found.3.read, found.3.byte, found.3.source) (λ c. bad.incoherent
                (coherent_read_by events before (HappensBefore events (sources_of bytes)) (λ e d. (same e d).1) bad.read bad.byte bad.source c));
          }

  -- two bytes that tear their read
  pub torn-iff : HasTornBytes events bytes ↔ HasTornReadBy events given
  torn-iff = (to, from)
    where
      to : HasTornBytes events bytes → HasTornReadBy events given
      to h =
          let p = h.byte in
          let q = h.is_so.byte in
          let t = h.is_so.is_so in
          record {
            read = p.read;
            source = p.source;
            other = q.source;
            first = record { reads = (p.byte, read_at events bytes first h.place p h.at_place); can = t.first_whole };
            second = rw t.one_read record { reads = (q.byte, read_at events bytes first h.is_so.place q h.is_so.at_place); can = t.second_whole };
            two_sources = λ same. t.two_sources (sym same);
          }

      from : HasTornReadBy events given → HasTornBytes events bytes
      from torn =
          let one = byte_at events bytes first torn.read torn.first.reads.0 torn.source torn.first.reads.1 in
          let two = byte_at events bytes first torn.read torn.second.reads.0 torn.other torn.second.reads.1 in
          record {
            place = one.0;
            byte = one.1;
            at_place = one.2;
            is_so = record {
              place = two.0;
              byte = two.1;
              at_place = two.2;
              is_so = record {
                one_read = one.3.read ∙ sym two.3.read;
                two_sources = λ same. torn.two_sources (sym two.3.source ∙ sym same ∙ one.3.source);
                first_whole = rw (one.3.read, one.3.source) torn.first.can;
                second_whole = rw (two.3.read, two.3.source) torn.second.can;
              };
            };
          }

not_iff : (b : Bool) {P Q : Type 0} → (IsTrue b ↔ P) → (¬ P → Q) → (Q → ¬ P) → IsTrue (not b) ↔ Q
not_iff true is to from = grind arith
not_iff false is to from = grind arith

-- the reads are coherent where no byte is incoherent
pub coherent_where_none : (events : List Event) (sources : List ℕ) (b : Bool) → (IsTrue b ↔ HasIncoherentByteBy events (ReadsByteFrom events sources)) → IsTrue (not b) ↔ HasCoherentReads events sources
coherent_where_none events sources b is =
    not_iff b is
    (λ none r b w h. record {
      not_later = λ later. none record { read = r; byte = b; source = w; is_given = h; incoherent = λ c. c.not_later later };
      not_hidden = λ v hides. none record { read = r; byte = b; source = w; is_given = h; incoherent = λ c. c.not_hidden v hides };
    })
    (λ all bad. bad.incoherent (all bad.read bad.byte bad.source bad.is_given))

-- they are tear free where none is torn
pub tear_free_where_none : (events : List Event) (sources : List ℕ) (b : Bool) → (IsTrue b ↔ HasTornReadBy events (ReadsByteFrom events sources)) → IsTrue (not b) ↔ HasTearFreeReads events sources
tear_free_where_none events sources b is =
    not_iff b is
    (λ none r w v first second. elim (cases_eq v w) [ inl same ↦ same | inr two ↦ absurd (none record { read = r; source = w; other = v; first = first; second = second; two_sources = two }) ])
    (λ all torn. torn.two_sources (all torn.read torn.source torn.other torn.first torn.second))
