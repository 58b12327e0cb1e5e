-- Quoted texts, by the laws of texts.
use Rattle.std.proofs.Common.{◌≡◌, ℕ, List, Option, Some, None, refl, ap, inl, inr, ◌⊎◌}
use Rattle.dlk_tree.specs.Trees.{Tree}
use Rattle.dlk_calculus.specs.Pairs.{Extra}
use Rattle.dlk_grammar.specs.declared.token.Form.TheVariants.{Formula, Term}
use Rattle.dlk_grammar.specs.declared.token.Dots.TheVariants.{Refused}
use Rattle.dlk_grammar.specs.Texts.{TreeText, TreeTextFault, ExtraText, ExtraTextFault, TextFault}
use Rattle.dlk_tacsyn.specs.Strategies.{Reading, IsReading, IsSaid}

-- a text says one thing or has a fault, and never both
pub record TextLaws {A : Type 0} (Says : List ℕ → A → Type 0) (Lacks : List ℕ → TextFault → Type 0) : Type 0 where
  pub one : (s : List ℕ) (a b : A) → Says s a → Says s b → a ≡ b
  pub no_fault : (s : List ℕ) (a : A) (why : TextFault) → Says s a → Lacks s why → ⊥
  pub some : (s : List ℕ) → ((a : A) × Says s a) ⊎ ((why : TextFault) × Lacks s why)

-- the laws of the texts that are quoted
pub record QuotedLaws : Type 0 where
  pub formulas : TextLaws (λ s (h : Tree). TreeText Formula Refused s h) (λ s why. TreeTextFault Formula Refused s why)
  pub terms : TextLaws (λ s (e : Tree). TreeText Term Refused s e) (λ s why. TreeTextFault Term Refused s why)
  pub extras : TextLaws (λ s (e : Extra). ExtraText s e) (λ s why. ExtraTextFault s why)

module _ {A : Type 0} (Says : List ℕ → A → Type 0) (Lacks : List ℕ → TextFault → Type 0) (laws : TextLaws Says Lacks) where
  same_said : (s : List ℕ) (a b : Option A) → IsSaid (Says s) a → IsSaid (Says s) b → a ≡ b
  same_said s None None m n = refl
  same_said s None (Some h) m n = absurd (m h n)
  same_said s (Some h) None m n = absurd (n h m)
  same_said s (Some h) (Some k) m n = ap (λ z. Some z) (laws.one s h k m n)

  pick : (s : List ℕ) → ((a : A) × Says s a) ⊎ ((why : TextFault) × Lacks s why) → Option A
  pick s (inl p) = Some p.0
  pick s (inr q) = None

  picked : (s : List ℕ) (d : ((a : A) × Says s a) ⊎ ((why : TextFault) × Lacks s why)) → IsSaid (Says s) (pick s d)
  unfolding pick
  picked s (inl p) = p.1
  picked s (inr q) = λ a r. laws.no_fault s a q.0 r q.1

-- some reading reads all quoted texts
module _ (laws : QuotedLaws) where
  pub reads : Reading
  reads = record {
    formula = λ s. pick _ _ laws.formulas s (laws.formulas.some s);
    term = λ s. pick _ _ laws.terms s (laws.terms.some s);
    extra = λ s. pick _ _ laws.extras s (laws.extras.some s);
  }

  pub reads_all : IsReading reads
  unfolding reads
  reads_all = record {
    formulas = λ s. picked _ _ laws.formulas s (laws.formulas.some s);
    terms = λ s. picked _ _ laws.terms s (laws.terms.some s);
    extras = λ s. picked _ _ laws.extras s (laws.extras.some s);
  }

  -- and they read alike
  pub one_reading : (r q : Reading) → IsReading r → IsReading q → r ≡ q
  one_reading r q m n = λ i. record {
    formula = λ s. same_said _ _ laws.formulas s (r.formula s) (q.formula s) (m.formulas s) (n.formulas s) i;
    term = λ s. same_said _ _ laws.terms s (r.term s) (q.term s) (m.terms s) (n.terms s) i;
    extra = λ s. same_said _ _ laws.extras s (r.extra s) (q.extra s) (m.extras s) (n.extras s) i;
  }
