-- What makes a subject right, part by part.
use Rattle.std.proofs.Common.{◌≡◌, Bool, true, ◌&&◌, length, refl, nat_le}
use Rattle.std.specs.List.{list_all}
use Rattle.std.proofs.lemmas.Bool.{and_parts}
use Rattle.pol_text.specs.declared.subject.Subject.{Subject}
use Rattle.pol_names.specs.Name.{is_name}
use Rattle.pol_names.specs.Kept.{is_right_secret}
use Rattle.pol_text.specs.Policy.{all_of, is_right_rule, has_right_secrets, are_right_lines, is_right_subject, max_rules}

pub record Right (s : Subject) : Type 0 where
  pub name : is_name s.name ≡ true
  pub parent : all_of is_name s.parent ≡ true
  pub login : all_of is_right_secret s.login ≡ true
  pub enable : all_of is_right_secret s.enable ≡ true
  pub secrets : has_right_secrets s ≡ true
  pub level : all_of (λ level. nat_le level 15) s.priv_lvl ≡ true
  pub services : are_right_lines s.services ≡ true
  pub few : nat_le (length s.rules) max_rules ≡ true
  pub rules : list_all is_right_rule s.rules ≡ true

nine_parts : (a b c d e f g h k : Bool) → (a && b && c && d && e && f && g && h && k) ≡ true
    → (a ≡ true) × (b ≡ true) × (c ≡ true) × (d ≡ true) × (e ≡ true) × (f ≡ true) × (g ≡ true) × (h ≡ true) × (k ≡ true)
nine_parts a b c d e f g h k all =
    let p8 = and_parts (a && b && c && d && e && f && g && h) k all in
    let p7 = and_parts (a && b && c && d && e && f && g) h p8.0 in
    let p6 = and_parts (a && b && c && d && e && f) g p7.0 in
    let p5 = and_parts (a && b && c && d && e) f p6.0 in
    let p4 = and_parts (a && b && c && d) e p5.0 in
    let p3 = and_parts (a && b && c) d p4.0 in
    let p2 = and_parts (a && b) c p3.0 in
    let p1 = and_parts a b p2.0 in
    (p1.0, p1.1, p2.1, p3.1, p4.1, p5.1, p6.1, p7.1, p8.1)

all_parts : (a b c d e f g h k : Bool) → (a ≡ true) → (b ≡ true) → (c ≡ true) → (d ≡ true) → (e ≡ true) → (f ≡ true) → (g ≡ true) → (h ≡ true) → (k ≡ true)
    → (a && b && c && d && e && f && g && h && k) ≡ true
all_parts a b c d e f g h k pa pb pc pd pe pf pg ph pk = rw (pa, pb, pc, pd, pe, pf, pg, ph, pk) refl

pub right_parts : (s : Subject) → is_right_subject s ≡ true → Right s
right_parts s all =
    let parts = nine_parts (is_name s.name) (all_of is_name s.parent) (all_of is_right_secret s.login) (all_of is_right_secret s.enable) (has_right_secrets s) (all_of (λ level. nat_le level 15) s.priv_lvl) (are_right_lines s.services) (nat_le (length s.rules) max_rules) (list_all is_right_rule s.rules) all in
    record { name = parts.0; parent = parts.1; login = parts.2; enable = parts.3; secrets = parts.4; level = parts.5; services = parts.6; few = parts.7; rules = parts.8 }

pub right_from : (s : Subject) → Right s → is_right_subject s ≡ true
right_from s r =
    all_parts (is_name s.name) (all_of is_name s.parent) (all_of is_right_secret s.login) (all_of is_right_secret s.enable) (has_right_secrets s) (all_of (λ level. nat_le level 15) s.priv_lvl) (are_right_lines s.services) (nat_le (length s.rules) max_rules) (list_all is_right_rule s.rules)
    r.name r.parent r.login r.enable r.secrets r.level r.services r.few r.rules
