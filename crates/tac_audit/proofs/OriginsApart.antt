-- Where lines come from is told apart.
use Rattle.std.specs.Prelude.{slice_index}
use Rattle.std.proofs.Common.{◌≡◌, ℕ, true, false, eqb, List, ◌++◌, Option, Some, None, codes, append_assoc, refl, sym, ap, ◌∙◌}
use Rattle.std.specs.Option.{option_map_or}
use Rattle.std.proofs.lemmas.Bool.{and_parts}
use Rattle.tac_audit.specs.declared.event.CameBy.{CameBy}
use Rattle.tac_audit.specs.declared.event.CameBy.TheVariants.{Key, OldKey, Tls}
use Rattle.tac_audit.specs.declared.event.Named.{Named}
use Rattle.tac_audit.specs.declared.event.Origin.{Origin}
use Rattle.tac_audit.specs.Json.{text_json, member}
use Rattle.tac_audit.specs.Event.{came_by_json, named_json, origin_json}
use Rattle.tac_audit.specs.Apart.{are_bytes, is_came_by, is_named, is_origin}
use Rattle.tac_audit.proofs.JsonApart.{optional_member, text_member, unlike}

-- a member follows whose name begins neither as `name` nor as `key`, and goes on otherwise than `tls`
abbrev pub IsAfterOrigin : List ℕ → Type 0
IsAfterOrigin x = (eqb (slice_index x 2) 0x6E ≡ false) × (eqb (slice_index x 2) 0x6B ≡ false) × (eqb (slice_index x 3) 0x6C ≡ false)

third : List ℕ → ℕ
third x = slice_index x 2

fourth : List ℕ → ℕ
fourth x = slice_index x 3

-- how a device came
came_apart : (a b : CameBy) (x y : List ℕ) → is_came_by a ≡ true → is_came_by b ≡ true → IsAfterOrigin x → IsAfterOrigin y
    → came_by_json a ++ x ≡ came_by_json b ++ y → (a ≡ b) × (x ≡ y)
unfolding member third fourth
came_apart Key Key x y h k next_x next_y same = (refl, same)
came_apart Key OldKey x y h k next_x next_y same = absurd (unlike (third x) 0x6B next_x.1 (ap third same))
came_apart Key (Tls b) x y h k next_x next_y same = absurd (unlike (fourth x) 0x6C next_x.2 (ap fourth same))
came_apart OldKey Key x y h k next_x next_y same = absurd (unlike (third y) 0x6B next_y.1 (ap third (sym same)))
came_apart OldKey OldKey x y h k next_x next_y same = (refl, (text_member (codes "key") (codes "old") (codes "old") x y refl refl same).1)
came_apart OldKey (Tls b) x y h k next_x next_y same = absurd (unlike 0x6B 0x74 refl (ap third same))
came_apart (Tls a) Key x y h k next_x next_y same = absurd (unlike (fourth y) 0x6C next_y.2 (ap fourth (sym same)))
came_apart (Tls a) OldKey x y h k next_x next_y same = absurd (unlike 0x74 0x6B refl (ap third same))
came_apart (Tls a) (Tls b) x y h k next_x next_y same =
    let names = optional_member (codes "tls") a b x y h k same in
    (ap (λ (name : Option (List ℕ)). Tls name) names.0, names.1)

named_parts : (a b : Named) → a.name ≡ b.name → a.came_by ≡ b.came_by → a ≡ b
named_parts a b name came_by =
    ap (λ (x : List ℕ). record a { name = x }) name
    ∙ ap (λ (x : CameBy). record b { came_by = x }) came_by

named_is : (a : Named) (x : List ℕ) → named_json (Some a) ++ x ≡ member (codes "name") (text_json a.name) ++ (came_by_json a.came_by ++ x)
named_is a x = append_assoc (member (codes "name") (text_json a.name)) (came_by_json a.came_by) x

-- what a devices' file says of a device, or nothing
named_apart : (a b : Option Named) (x y : List ℕ) → option_map_or is_named a true ≡ true → option_map_or is_named b true ≡ true
    → IsAfterOrigin x → IsAfterOrigin y → named_json a ++ x ≡ named_json b ++ y → (a ≡ b) × (x ≡ y)
unfolding member third
named_apart None None x y h k next_x next_y same = (refl, same)
named_apart None (Some b) x y h k next_x next_y same = absurd (unlike (third x) 0x6E next_x.0 (ap third same))
named_apart (Some a) None x y h k next_x next_y same = absurd (unlike (third y) 0x6E next_y.0 (ap third (sym same)))
named_apart (Some a) (Some b) x y h k next_x next_y same =
    let here = and_parts (are_bytes a.name) (is_came_by a.came_by) h in
    let there = and_parts (are_bytes b.name) (is_came_by b.came_by) k in
    let names = text_member (codes "name") a.name b.name (came_by_json a.came_by ++ x) (came_by_json b.came_by ++ y) here.0 there.0 (sym (named_is a x) ∙ same ∙ named_is b y) in
    let came = came_apart a.came_by b.came_by x y here.1 there.1 next_x next_y names.1 in
    (ap (λ (named : Named). Some named) (named_parts a b names.0 came.0), came.1)

origin_parts : (a b : Origin) → a.device ≡ b.device → a.named ≡ b.named → a ≡ b
origin_parts a b device named =
    ap (λ (x : List ℕ). record a { device = x }) device
    ∙ ap (λ (x : Option Named). record b { named = x }) named

origin_is : (a : Origin) (x : List ℕ) → origin_json a ++ x ≡ member (codes "device") (text_json a.device) ++ (named_json a.named ++ x)
unfolding origin_json
origin_is a x = append_assoc (member (codes "device") (text_json a.device)) (named_json a.named) x

pub origins_apart : (a b : Origin) (x y : List ℕ) → is_origin a ≡ true → is_origin b ≡ true → IsAfterOrigin x → IsAfterOrigin y → origin_json a ++ x ≡ origin_json b ++ y → (a ≡ b) × (x ≡ y)
origins_apart a b x y h k next_x next_y same =
    let here = and_parts (are_bytes a.device) (option_map_or is_named a.named true) h in
    let there = and_parts (are_bytes b.device) (option_map_or is_named b.named true) k in
    let devices = text_member (codes "device") a.device b.device (named_json a.named ++ x) (named_json b.named ++ y) here.0 there.0 (sym (origin_is a x) ∙ same ∙ origin_is b y) in
    let named = named_apart a.named b.named x y here.1 there.1 next_x next_y devices.1 in
    (origin_parts a b devices.0 named.0, named.1)
