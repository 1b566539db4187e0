-- Which rules are the same, which subjects, and which policies.
use Rattle.std.specs.Prelude.{◌≡◌, ℕ, ◌==◌, List, Bool, true, false, ◌&&◌, Option, Some, None, refl}
use Rattle.std.specs.Bool.{Decides}
use Rattle.std.specs.Cmp.{unsigned_Decides}
use Rattle.std.specs.Cmp.Lexicographic.{pointwise}
use Rattle.std.specs.Option.{option_eq}
use Rattle.std.specs.Str.{bytes_eq}
use Rattle.std.proofs.Common.{ap, ◌∙◌}
use Rattle.std.proofs.lemmas.Bool.Decides.{Decides-like, Decides-and}
use Rattle.std.proofs.lemmas.Slice.Eq.{bytes_eq-Decides, slice_eq-Decides}
use Rattle.pol_names.specs.SubjectId.{same_kind}
use Rattle.pol_names.specs.declared.subject_id.Kind.{Kind}
use Rattle.pol_names.specs.declared.subject_id.Kind.TheVariants.{Group, User}
use Rattle.pol_names.specs.declared.decision.Verdict.{Verdict}
use Rattle.pol_names.specs.declared.decision.Verdict.TheVariants.{Permit, Deny}
use Rattle.pol_names.specs.declared.secret.Secret.{Secret}
use Rattle.pol_names.specs.Kept.{same_secret, same_secret-Decides}
use Rattle.pol_names.specs.SameService.{same_line, same_line-Decides}
use Rattle.pol_names.specs.declared.service.ServiceLine.{ServiceLine}
use Rattle.pol_text.specs.declared.subject.Rule.{Rule}
use Rattle.pol_text.specs.declared.subject.Subject.{Subject}

abbrev pub same_verdict : Verdict → Verdict → Bool
same_verdict Permit Permit = true
same_verdict Permit Deny = false
same_verdict Deny Permit = false
same_verdict Deny Deny = true

abbrev pub same_rule : Rule → Rule → Bool
same_rule a b = same_verdict a.verdict b.verdict && bytes_eq a.pattern b.pattern

abbrev pub same_subject : Subject → Subject → Bool
same_subject a b =
    same_kind a.kind b.kind && (bytes_eq a.name b.name && (option_eq bytes_eq a.parent b.parent
    && (option_eq same_secret a.login b.login && (option_eq same_secret a.enable b.enable
    && (option_eq (λ m n. m == n) a.priv_lvl b.priv_lvl
    && (pointwise same_line a.services b.services && pointwise same_rule a.rules b.rules))))))

-- ---- the tests tell

same_kind-Decides : (a b : Kind) → Decides (same_kind a b) (a ≡ b)
same_kind-Decides Group Group = (λ e. refl, λ e. refl)
same_kind-Decides Group User = (λ e. absurd cc, λ e. absurd cc)
same_kind-Decides User Group = (λ e. absurd cc, λ e. absurd cc)
same_kind-Decides User User = (λ e. refl, λ e. refl)

same_verdict-Decides : (a b : Verdict) → Decides (same_verdict a b) (a ≡ b)
same_verdict-Decides Permit Permit = (λ e. refl, λ e. refl)
same_verdict-Decides Permit Deny = (λ e. absurd cc, λ e. absurd cc)
same_verdict-Decides Deny Permit = (λ e. absurd cc, λ e. absurd cc)
same_verdict-Decides Deny Deny = (λ e. refl, λ e. refl)

ruled_so : (a b : Rule) → (a.verdict ≡ b.verdict) × (a.pattern ≡ b.pattern) → a ≡ b
ruled_so a b same =
    ap (λ (verdict : Verdict). record { verdict = verdict; pattern = a.pattern }) same.0
    ∙ ap (λ (pattern : List ℕ). record { verdict = b.verdict; pattern = pattern }) same.1

-- it is the same rule exactly if verdict and pattern are the same
pub same_rule-Decides : (a b : Rule) → Decides (same_rule a b) (a ≡ b)
same_rule-Decides a b =
    Decides-like (same_rule a b) (ruled_so a b)
    (λ (e : a ≡ b). (
      ap (λ (rule : Rule). rule.verdict) e,
      ap (λ (rule : Rule). rule.pattern) e,
    ))
    (Decides-and (same_verdict a.verdict b.verdict) (bytes_eq a.pattern b.pattern)
    (same_verdict-Decides a.verdict b.verdict) (bytes_eq-Decides a.pattern b.pattern))

option-Decides : {A : Type 0} (E : A → A → Bool) → ((x y : A) → Decides (E x y) (x ≡ y))
    → (a b : Option A) → Decides (option_eq E a b) (a ≡ b)
option-Decides E tells None None = (λ e. refl, λ e. refl)
option-Decides E tells None (Some y) = (λ e. absurd cc, λ e. absurd cc)
option-Decides E tells (Some x) None = (λ e. absurd cc, λ e. absurd cc)
option-Decides E tells (Some x) (Some y) = (λ e. ap Some ((tells x y).0 e), λ e. (tells x y).1 (cc))

abbrev AreSame : Subject → Subject → Type 0
AreSame a b =
    (a.kind ≡ b.kind)
    × ((a.name ≡ b.name)
    × ((a.parent ≡ b.parent)
    × ((a.login ≡ b.login)
    × ((a.enable ≡ b.enable)
    × ((a.priv_lvl ≡ b.priv_lvl) × ((a.services ≡ b.services) × (a.rules ≡ b.rules)))))))

abbrev of_parts : Kind → List ℕ → Option (List ℕ) → Option Secret → Option Secret → Option ℕ
    → List ServiceLine → List Rule → Subject
of_parts kind name parent login enable level services rules =
    record {
      kind = kind;
      name = name;
      parent = parent;
      login = login;
      enable = enable;
      priv_lvl = level;
      services = services;
      rules = rules;
    }

made_so : (a b : Subject) → AreSame a b → a ≡ b
made_so a b (kind, (name, (parent, (login, (enable, (level, (services, rules))))))) =
    ap (λ (x : Kind).
    of_parts x a.name a.parent a.login a.enable a.priv_lvl a.services a.rules) kind
    ∙ ap (λ (x : List ℕ).
    of_parts b.kind x a.parent a.login a.enable a.priv_lvl a.services a.rules) name
    ∙ ap (λ (x : Option (List ℕ)).
    of_parts b.kind b.name x a.login a.enable a.priv_lvl a.services a.rules) parent
    ∙ ap (λ (x : Option Secret).
    of_parts b.kind b.name b.parent x a.enable a.priv_lvl a.services a.rules) login
    ∙ ap (λ (x : Option Secret).
    of_parts b.kind b.name b.parent b.login x a.priv_lvl a.services a.rules) enable
    ∙ ap (λ (x : Option ℕ).
    of_parts b.kind b.name b.parent b.login b.enable x a.services a.rules) level
    ∙ ap (λ (x : List ServiceLine).
    of_parts b.kind b.name b.parent b.login b.enable b.priv_lvl x a.rules) services
    ∙ ap (λ (x : List Rule).
    of_parts b.kind b.name b.parent b.login b.enable b.priv_lvl b.services x) rules

parts_so : (a b : Subject) → a ≡ b → AreSame a b
parts_so a b e = (
  ap (λ (s : Subject). s.kind) e,
  (
    ap (λ (s : Subject). s.name) e,
    (
      ap (λ (s : Subject). s.parent) e,
      (
        ap (λ (s : Subject). s.login) e,
        (
          ap (λ (s : Subject). s.enable) e,
          (
            ap (λ (s : Subject). s.priv_lvl) e,
            (
              ap (λ (s : Subject). s.services) e,
              ap (λ (s : Subject). s.rules) e,
            ),
          ),
        ),
      ),
    ),
  ),
)

-- it is the same subject exactly if all of it is the same
pub same_subject-Decides : (a b : Subject) → Decides (same_subject a b) (a ≡ b)
same_subject-Decides a b =
    Decides-like (same_subject a b) (made_so a b) (parts_so a b)
    (Decides-and _ _ (same_kind-Decides a.kind b.kind)
    (Decides-and _ _ (bytes_eq-Decides a.name b.name)
    (Decides-and _ _ (option-Decides bytes_eq bytes_eq-Decides a.parent b.parent)
    (Decides-and _ _ (option-Decides same_secret same_secret-Decides a.login b.login)
    (Decides-and _ _ (option-Decides same_secret same_secret-Decides a.enable b.enable)
    (Decides-and _ _ (option-Decides (λ m n. m == n) unsigned_Decides a.priv_lvl b.priv_lvl)
    (Decides-and _ _ (slice_eq-Decides same_line-Decides a.services b.services
    (pointwise same_line a.services b.services) refl)
    (slice_eq-Decides same_rule-Decides a.rules b.rules
    (pointwise same_rule a.rules b.rules) refl))))))))

pub same_rule-identical : (a b : Rule) → same_rule a b ≡ true → a ≡ b
same_rule-identical a b e = (same_rule-Decides a b).0 e

pub same_subject-identical : (a b : Subject) → same_subject a b ≡ true → a ≡ b
same_subject-identical a b e = (same_subject-Decides a b).0 e

abbrev pub same_policy : List Subject → List Subject → Bool
same_policy a b = pointwise same_subject a b

-- it is the same policy exactly if it has the same subjects in the same order
pub same_policy-Decides : (a b : List Subject) → Decides (same_policy a b) (a ≡ b)
same_policy-Decides a b = slice_eq-Decides same_subject-Decides a b (same_policy a b) refl

pub same_policy-identical : (a b : List Subject) → same_policy a b ≡ true → a ≡ b
same_policy-identical a b e = (same_policy-Decides a b).0 e
