-- A rule makes at most one list of premises, and makes one exactly where nothing speaks against it.
use Rattle.std.proofs.Common.{◌≡◌, List, sym, ap, subst, ◌∙◌, refl, arith, ◌⊎◌, inl, inr}
use Rattle.dlk_calculus.specs.declared.reason.Reason.{Reason}
use Rattle.dlk_calculus.specs.declared.reason.Reason.TheVariants.{NoPlace, WrongShape, NotEqual, NotFresh}
use Rattle.dlk_calculus.specs.Sequents.{Sequent}
use Rattle.dlk_calculus.specs.Rules.{Rule, figure, Premises, Lacks, RuleAgainst, FirstAgainst}
use Rattle.dlk_calculus.proofs.Figures.{lawful}

-- ---- at most one list of premises

one_parts : (rule : Rule) (s : Sequent) (p q : (figure rule s.ante s.succ).Parts) → (figure rule s.ante s.succ).shape p →
    (figure rule s.ante s.succ).shape q → p ≡ q
one_parts rule s = (lawful rule s).decided.one_shape

pub one_premises : (rule : Rule) (s : Sequent) (ps qs : List Sequent) → Premises rule s ps → Premises rule s qs → ps ≡ qs
one_premises rule s ps qs p q = p.premises_are ∙ ap (figure rule s.ante s.succ).premises (one_parts rule s p.parts q.parts p.shape q.shape) ∙ sym q.premises_are

-- nothing speaks against a rule that makes premises
pub premises_unless_against : (rule : Rule) (s : Sequent) (premises : List Sequent) (why : Reason) → Premises rule s premises → RuleAgainst why rule s → ⊥
premises_unless_against rule s premises NoPlace p a = a p.places
premises_unless_against rule s premises WrongShape p a = a p.parts p.shape
premises_unless_against rule s premises NotEqual p a = a.2 (subst (figure rule s.ante s.succ).equals (one_parts rule s p.parts a.0 p.shape a.1) p.equals)
premises_unless_against rule s premises NotFresh p a = a.2 (subst (figure rule s.ante s.succ).fresh (one_parts rule s p.parts a.0 p.shape a.1) p.fresh)
premises_unless_against rule s premises _ p a = a

-- ---- the first reason against a rule, by the reasons before it

pub first_no_place : (rule : Rule) (s : Sequent) → (¬ (figure rule s.ante s.succ).places) → FirstAgainst rule s NoPlace
first_no_place rule s n = record {
  against = n;
  first = elim [
    | NoPlace ↦ λ lt. absurd (omega arith)
    | WrongShape ↦ λ lt. absurd (omega arith)
    | NotEqual ↦ λ lt. absurd (omega arith)
    | NotFresh ↦ λ lt. absurd (omega arith)
    | _ ↦ λ lt a. a
  ];
}

module _ (rule : Rule) (s : Sequent) (h : (figure rule s.ante s.succ).places) where
  pub first_wrong_shape : ((p : (figure rule s.ante s.succ).Parts) → ¬ (figure rule s.ante s.succ).shape p) → FirstAgainst rule s WrongShape
  first_wrong_shape n = record {
    against = n;
    first = elim [
      | NoPlace ↦ λ lt a. a h
      | WrongShape ↦ λ lt. absurd (omega arith)
      | NotEqual ↦ λ lt. absurd (omega arith)
      | NotFresh ↦ λ lt. absurd (omega arith)
      | _ ↦ λ lt a. a
    ];
  }

  module _ (p : (figure rule s.ante s.succ).Parts) (k : (figure rule s.ante s.succ).shape p) where
    pub first_not_equal : (¬ (figure rule s.ante s.succ).equals p) → FirstAgainst rule s NotEqual
    first_not_equal n = record {
      against = (p, k, n);
      first = elim [
        | NoPlace ↦ λ lt a. a h
        | WrongShape ↦ λ lt a. a p k
        | NotEqual ↦ λ lt. absurd (omega arith)
        | NotFresh ↦ λ lt. absurd (omega arith)
        | _ ↦ λ lt a. a
      ];
    }

    are_equal : (figure rule s.ante s.succ).equals p → Lacks (figure rule s.ante s.succ) (figure rule s.ante s.succ).equals → ⊥
    are_equal e a = a.2 (subst (figure rule s.ante s.succ).equals (one_parts rule s p a.0 k a.1) e)

    pub first_not_fresh : (figure rule s.ante s.succ).equals p → (¬ (figure rule s.ante s.succ).fresh p) → FirstAgainst rule s NotFresh
    first_not_fresh e n = record {
      against = (p, k, n);
      first = elim [
        | NoPlace ↦ λ lt a. a h
        | WrongShape ↦ λ lt a. a p k
        | NotEqual ↦ λ lt a. are_equal e a
        | NotFresh ↦ λ lt. absurd (omega arith)
        | _ ↦ λ lt a. a
      ];
    }

-- a rule makes premises, or there is a first reason against it
pub rule_cases : (rule : Rule) (s : Sequent) → ((premises : List Sequent) × Premises rule s premises) ⊎ ((why : Reason) × FirstAgainst rule s why)
rule_cases rule s =
    let d = (lawful rule s).decided in
    elim d.places [
      | no n ↦ inr (NoPlace, first_no_place rule s n)
      | yes h ↦ elim d.shape [
        | no n ↦ inr (WrongShape, first_wrong_shape rule s h (λ p k. n (p, k)))
        | yes k ↦ elim (d.equals k.0) [
          | no n ↦ inr (NotEqual, first_not_equal rule s h k.0 k.1 n)
          | yes e ↦ elim (d.fresh k.0) [
            | no n ↦ inr (NotFresh, first_not_fresh rule s h k.0 k.1 e n)
            | yes f ↦
                inl ((figure rule s.ante s.succ).premises k.0, record { places = h; parts = k.0; shape = k.1; equals = e; fresh = f; premises_are = refl })
          ]
        ]
      ]
    ]
