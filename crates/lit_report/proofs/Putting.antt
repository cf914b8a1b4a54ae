-- Texts put one behind another.
use Rattle.std.proofs.Common.{◌≡◌, ℕ, Bool, true, false, List, [], ◌++◌, Option, Ok, Err, OnOk, OnErr, refl, sym, ap, subst, ◌∙◌, append_assoc}
use Rattle.std.specs.declared.result.Result.{Result}
use Rattle.std.proofs.lemmas.List.{append-nil}
use Rattle.std.specs.Io.KnownBytes.{Appends}
use Rattle.std.proofs.KnownBytes.{Appends-trans, Appends-nil}
use Rattle.lit_report.specs.Counted.{one_more}
use Rattle.lit_report.specs.Writing.{AppendsBeginning, Writing, GoesOn, Fails, Stays, HasPut, IsFinished, IsStopped}

-- a beginning of what stands before is a beginning of all
pub beginning_of_more : (a b : Option (List ℕ)) (x y : List ℕ) → AppendsBeginning a b x → AppendsBeginning a b (x ++ y)
beginning_of_more a b x y p = record {
  front = p.front;
  rest = p.rest ++ y;
  parts = sym (append_assoc p.front p.rest y) ∙ ap (λ (w : List ℕ). w ++ y) p.parts;
  appended = p.appended;
}

joined : (front more after mid before s t : List ℕ) → front ++ mid ≡ before ++ s → more ++ after ≡ mid ++ t → (front ++ more) ++ after ≡ before ++ (s ++ t)
joined front more after mid before s t p q =
    append_assoc front more after ∙ ap (λ (w : List ℕ). front ++ w) q ∙ sym (append_assoc front mid t) ∙ ap (λ (w : List ℕ). w ++ t) p ∙ append_assoc before s t

going-then : (a b c : Writing) (s t : List ℕ) → GoesOn a b s → GoesOn b c t → GoesOn a c (s ++ t)
going-then a b c s t p q = record {
  same = q.same ∙ p.same;
  front = p.front ++ q.front;
  parts = joined p.front q.front c.waiting b.waiting a.waiting s t p.parts q.parts;
  appended = Appends-trans a.known b.known c.known p.front q.front p.appended q.appended;
}

fails-then : (a b c : Writing) (s t : List ℕ) → GoesOn a b s → Fails b c t → Fails a c (s ++ t)
fails-then a b c s t p q = record {
  count = q.count ∙ ap one_more p.same;
  begun = record {
    front = p.front ++ q.begun.front;
    rest = q.begun.rest;
    parts = joined p.front q.begun.front q.begun.rest b.waiting a.waiting s t p.parts q.begun.parts;
    appended = Appends-trans a.known b.known c.known p.front q.begun.front p.appended q.begun.appended;
  };
}

failed-then : (a b c : Writing) (s t : List ℕ) → Fails a b s → Stays b c → Fails a c (s ++ t)
failed-then a b c s t p q = record {
  count = q.same ∙ p.count;
  begun = rw (q.known, sym (append_assoc a.waiting s t)) (beginning_of_more a.known b.known (a.waiting ++ s) t p.begun);
}

-- one text put behind another
pub HasPut-then : (a b c : Writing) (s t : List ℕ) → HasPut a b s → HasPut b c t → HasPut a c (s ++ t)
HasPut-then a b c s t p q = by_middle b.failed refl
  where
    by_middle : (f : Bool) → b.failed ≡ f → HasPut a c (s ++ t)
    by_middle false is = record {
      going = λ before after. going-then a b c s t (p.going before is) (q.going is after);
      failing = λ before after. fails-then a b c s t (p.going before is) (q.failing is after);
      failed = λ before. let f = (p.failed before).failed in absurd cc;
    }
    by_middle true is = record {
      going = λ before after. let f = (q.failed is).failed in absurd cc;
      failing = λ before after. failed-then a b c s t (p.failing before is) (q.failed is);
      failed = λ before.
          let old = p.failed before in
          let new = q.failed is in
          record { failed = new.failed; same = new.same ∙ old.same; known = new.known ∙ old.known };
    }

-- nothing put
pub HasPut-nothing : (a : Writing) → HasPut a a []
HasPut-nothing a = record {
  going = λ before after. record { same = refl; front = []; parts = sym (append-nil a.waiting); appended = Appends-nil a.known };
  failing = λ before after. absurd cc;
  failed = λ before. record { failed = before; same = refl; known = refl };
}

-- the same text, said in another way
pub HasPut-is : (a b : Writing) (s text : List ℕ) → HasPut a b s → s ≡ text → HasPut a b text
HasPut-is a b s text p is = subst (λ (w : List ℕ). HasPut a b w) is p

-- a text behind which others come, up to a whole
pub record PutsOf (a b : Writing) (rest whole : List ℕ) : Type 0 where
  pub done : List ℕ
  pub put : HasPut a b done
  pub parts : done ++ rest ≡ whole

pub puts_start : (a : Writing) (whole : List ℕ) → PutsOf a a whole whole
puts_start a whole = record { done = []; put = HasPut-nothing a; parts = refl }

pub puts_more : (a b c : Writing) (rest more later whole : List ℕ) → PutsOf a b rest whole → HasPut b c more → rest ≡ more ++ later → PutsOf a c later whole
puts_more a b c rest more later whole p q is = record {
  done = p.done ++ more;
  put = HasPut-then a b c p.done more p.put q;
  parts = append_assoc p.done more later ∙ ap (λ (w : List ℕ). p.done ++ w) (sym is) ∙ p.parts;
}

pub puts_end : (a b : Writing) (rest whole : List ℕ) → PutsOf a b rest whole → rest ≡ [] → HasPut a b whole
puts_end a b rest whole p none = HasPut-is a b p.done whole p.put (sym (append-nil p.done) ∙ ap (λ (w : List ℕ). p.done ++ w) (sym none) ∙ p.parts)

-- a text that is written on its own, where nothing waits before it or after it
pub put_through : (a : Writing) (known : Option (List ℕ)) (failures : ℕ) (failed : Bool) (waiting text : List ℕ)
    → HasPut (record { known = a.known; failures = a.failures; waiting = text; failed = a.failed }) (record { known = known; failures = failures; waiting = []; failed = failed }) []
    → a.waiting ≡ [] → waiting ≡ [] → HasPut a (record { known = known; failures = failures; waiting = waiting; failed = failed }) text
put_through a known failures failed waiting text p empty none = record {
  going = λ before after.
      let q = p.going before after in
      record { same = q.same; front = q.front; parts = ap (λ (w : List ℕ). q.front ++ w) none ∙ q.parts ∙ append-nil text ∙ ap (λ (w : List ℕ). w ++ text) (sym empty); appended = q.appended };
  failing = λ before after.
      let q = p.failing before after in
      record { count = q.count; begun = subst (λ (w : List ℕ). AppendsBeginning a.known known w) (append-nil text ∙ ap (λ (w : List ℕ). w ++ text) (sym empty)) q.begun };
  failed = λ before. let q = p.failed before in record { failed = q.failed; same = q.same; known = q.known };
}

-- ---- a whole text
written_by : (a b : Writing) (known : Option (List ℕ)) (text : List ℕ) → GoesOn a b text → a.waiting ≡ [] → Appends b.known known b.waiting → Appends a.known known text
written_by a b known text p empty rest =
    let all : p.front ++ b.waiting ≡ text = p.parts ∙ ap (λ (w : List ℕ). w ++ text) empty in
    subst (λ (w : List ℕ). Appends a.known known w) all (Appends-trans a.known b.known known p.front b.waiting p.appended rest)

begun_by : (a b : Writing) (known : Option (List ℕ)) (text : List ℕ) → GoesOn a b text → a.waiting ≡ [] → AppendsBeginning b.known known b.waiting → AppendsBeginning a.known known text
begun_by a b known text p empty rest = record {
  front = p.front ++ rest.front;
  rest = rest.rest;
  parts = append_assoc p.front rest.front rest.rest ∙ ap (λ (w : List ℕ). p.front ++ w) rest.parts ∙ p.parts ∙ ap (λ (w : List ℕ). w ++ text) empty;
  appended = Appends-trans a.known b.known known p.front rest.front p.appended rest.appended;
}

-- a text of which nothing waited before, put and then finished
pub finished : {X E : Type 0} (r : Result X E) (a b : Writing) (known : Option (List ℕ)) (failures : ℕ) (text : List ℕ) → HasPut a b text → a.waiting ≡ [] → a.failed ≡ false
    → OnOk r (IsFinished b known failures) → OnOk r (Appends a.known known text)
finished (Ok x) a b known failures text p empty going f = written_by a b known text (p.going going f.going) empty f.appended
finished (Err e) a b known failures text p empty going f = tt

stopped_after : (a b : Writing) (known : Option (List ℕ)) (failures : ℕ) (text : List ℕ) → HasPut a b text → a.waiting ≡ [] → a.failed ≡ false → IsStopped b known failures → AppendsBeginning a.known known text
stopped_after a b known failures text p empty going s = by b.failed refl
  where
    by : (f : Bool) → b.failed ≡ f → AppendsBeginning a.known known text
    by false is = begun_by a b known text (p.going going is) empty (s.failing is).1
    by true is =
        let begun = (p.failing going is).begun in
        let same = (s.failed is).1 in
        subst (λ (k : Option (List ℕ)). AppendsBeginning a.known k text) (sym same) (subst (λ (w : List ℕ). AppendsBeginning a.known b.known w) (ap (λ (w : List ℕ). w ++ text) empty) begun)

pub stopped : {X E : Type 0} (r : Result X E) (a b : Writing) (known : Option (List ℕ)) (failures : ℕ) (text : List ℕ) → HasPut a b text → a.waiting ≡ [] → a.failed ≡ false
    → OnErr r (IsStopped b known failures) → OnErr r (AppendsBeginning a.known known text)
stopped (Ok x) a b known failures text p empty going s = tt
stopped (Err e) a b known failures text p empty going s = stopped_after a b known failures text p empty going s
