-- Which subject: a group or a user, by name.
use Rattle.std.specs.Prelude.{◌≡◌, ℕ, List, ◌++◌, codes, Bool, true, false, ◌&&◌, refl}
use Rattle.std.specs.Bool.{Decides}
use Rattle.std.proofs.Common.{ap, ◌∙◌}
use Rattle.std.proofs.lemmas.Bool.Decides.{Decides-like, Decides-and}
use Rattle.std.proofs.lemmas.Slice.Eq.{bytes_eq-Decides}
use Rattle.std.specs.Str.{bytes_eq}
use Rattle.pol_names.specs.declared.subject_id.Kind.{Kind}
use Rattle.pol_names.specs.declared.subject_id.Kind.TheVariants.{Group, User}
use Rattle.pol_names.specs.declared.subject_id.SubjectId.{SubjectId}

abbrev pub same_kind : Kind → Kind → Bool
same_kind Group Group = true
same_kind Group User = false
same_kind User Group = false
same_kind User User = true

-- a group and a user may have the same name
abbrev pub same_id : SubjectId → SubjectId → Bool
same_id a b = same_kind a.kind b.kind && bytes_eq a.name b.name

same_kind-Decides : (a b : Kind) → Decides (same_kind a b) (a ≡ b)
same_kind-Decides Group Group = (λ e. refl, λ e. refl)
same_kind-Decides Group User = (λ e. absurd cc, λ e. absurd cc)
same_kind-Decides User Group = (λ e. absurd cc, λ e. absurd cc)
same_kind-Decides User User = (λ e. refl, λ e. refl)

named_so : (a b : SubjectId) → (a.kind ≡ b.kind) × (a.name ≡ b.name) → a ≡ b
named_so a b same =
    ap (λ (kind : Kind). record { kind = kind; name = a.name }) same.0
    ∙ ap (λ (name : List ℕ). record { kind = b.kind; name = name }) same.1

-- it is the same subject exactly if kind and name are the same
pub same_id-Decides : (a b : SubjectId) → Decides (same_id a b) (a ≡ b)
same_id-Decides a b =
    Decides-like (same_id a b) (named_so a b)
    (λ (e : a ≡ b). (ap (λ (id : SubjectId). id.kind) e, ap (λ (id : SubjectId). id.name) e))
    (Decides-and (same_kind a.kind b.kind) (bytes_eq a.name b.name)
    (same_kind-Decides a.kind b.kind) (bytes_eq-Decides a.name b.name))

abbrev pub group_id : List ℕ → SubjectId
group_id name = record { kind = Group; name = name }

abbrev pub user_id : List ℕ → SubjectId
user_id name = record { kind = User; name = name }

-- what a subject of this kind begins with wherever it is named
abbrev pub kind_word : Kind → List ℕ
kind_word Group = codes "group "
kind_word User = codes "user "

-- `group NAME` or `user NAME`
abbrev pub subject_text : SubjectId → List ℕ
subject_text subject = kind_word subject.kind ++ subject.name
