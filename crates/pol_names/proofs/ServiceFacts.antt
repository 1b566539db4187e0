-- The text of a service is read as that service, and nothing else is; so is what follows it.
use Rattle.std.proofs.Common.{◌≡◌, ℕ, Bool, true, false, not, cond, ◌&&◌, eqb, nat_le, nat_lt, List, [], ◌∷◌, ◌++◌, length, Option, Some, None, codes, is_some, refl, sym, ap, ◌∙◌, append-nil, append_assoc, arith}
use Rattle.std.specs.List.{list_all}
use Rattle.std.specs.Option.{option_and_then, option_map, option_map_or}
use Rattle.std.specs.Str.{bytes_eq}
use Rattle.std.proofs.lemmas.Bool.{and_parts, and_from, eq-eqb, eqb-true, not-true}
use Rattle.std.proofs.lemmas.Bool.Decides.{nat_tests}
use Rattle.std.proofs.lemmas.List.Folds.{list_all-append}
use Rattle.basics.specs.Lines.{split_at_first}
use Rattle.basics.specs.Symbol.{is_symbol, is_text}
use Rattle.pol_names.specs.Name.{is_name, is_name_byte, name_of}
use Rattle.pol_names.specs.Service.{is_shell, is_service, service_text, service_split, service_of, is_level, is_attribute, has_attribute_name, may_say, attributed_text, attribute_in, attributed_split, attributed_of}
use Rattle.pol_names.specs.declared.service.ServiceId.{ServiceId}
use Rattle.pol_names.specs.declared.service.Says.{Says}
use Rattle.pol_names.specs.declared.service.Says.TheVariants.{Allows, Refuses}

-- ---- texts without a separator

abbrev lacks : ℕ → List ℕ → Bool
lacks separator = list_all (λ byte. not (eqb byte separator))

split_first : (separator : ℕ) (text rest : List ℕ) → lacks separator text ≡ true
    → split_at_first separator (text ++ separator ∷ rest) ≡ Some (text, rest)
split_first separator [] rest none = rw (eq-eqb separator separator refl) refl
split_first separator (byte ∷ text) rest none =
    let parts = and_parts (not (eqb byte separator)) (lacks separator text) none in
    rw (not-true (eqb byte separator) parts.0, split_first separator text rest parts.1) refl

split_nowhere : (separator : ℕ) (text : List ℕ) → lacks separator text ≡ true → split_at_first separator text ≡ None
split_nowhere separator [] none = refl
split_nowhere separator (byte ∷ text) none =
    let parts = and_parts (not (eqb byte separator)) (lacks separator text) none in
    rw (not-true (eqb byte separator) parts.0, split_nowhere separator text parts.1) refl

joined : (separator : ℕ) (text : List ℕ) (parts : List ℕ × List ℕ) → split_at_first separator text ≡ Some parts → text ≡ parts.0 ++ separator ∷ parts.1
joined separator [] parts h = absurd cc
joined separator (byte ∷ text) parts h = by (eqb byte separator) refl (split_at_first separator text) (joined separator text) h
  where
    by : (b : Bool) → eqb byte separator ≡ b → (o : Option (List ℕ × List ℕ)) → ((p : List ℕ × List ℕ) → o ≡ Some p → text ≡ p.0 ++ separator ∷ p.1)
        → cond b (Some ([], text)) (option_map (λ p. (byte ∷ p.0, p.1)) o) ≡ Some parts → byte ∷ text ≡ parts.0 ++ separator ∷ parts.1
    by true e o below k =
        let is : parts ≡ ([], text) = cc in
        let same : byte ≡ separator = eqb-true byte separator e in
        rw (is, same) refl
    by false e None below k = absurd cc
    by false e (Some p) below k = let is : parts ≡ (byte ∷ p.0, p.1) = cc in rw is (ap (λ (rest : List ℕ). byte ∷ rest) (below p refl))

-- ---- names

bytes_of : (name : List ℕ) → is_name name ≡ true → list_all is_name_byte name ≡ true
bytes_of name h = (and_parts (nat_lt 0 (length name) && nat_le (length name) 32) (list_all is_name_byte name) h).1

byte_no_slash : (byte : ℕ) → is_name_byte byte ≡ true → not (eqb byte 47) ≡ true
unfolding is_name_byte
byte_no_slash byte h = grind (arith, nat_tests)

byte_no_blank : (byte : ℕ) → is_name_byte byte ≡ true → not (eqb byte 32) ≡ true
unfolding is_name_byte
byte_no_blank byte h = grind (arith, nat_tests)

byte_symbol : (byte : ℕ) → is_name_byte byte ≡ true → is_symbol byte ≡ true
unfolding is_name_byte
byte_symbol byte h = grind (arith, nat_tests)

all_so : (test other : ℕ → Bool) → ((byte : ℕ) → test byte ≡ true → other byte ≡ true) → (text : List ℕ) → list_all test text ≡ true → list_all other text ≡ true
all_so test other so [] h = refl
all_so test other so (byte ∷ text) h =
    let parts = and_parts (test byte) (list_all test text) h in
    and_from (other byte) (list_all other text) (so byte parts.0) (all_so test other so text parts.1)

no_slash : (name : List ℕ) → is_name name ≡ true → lacks 47 name ≡ true
no_slash name h = all_so is_name_byte (λ byte. not (eqb byte 47)) byte_no_slash name (bytes_of name h)

no_blank : (name : List ℕ) → is_name name ≡ true → lacks 32 name ≡ true
no_blank name h = all_so is_name_byte (λ byte. not (eqb byte 32)) byte_no_blank name (bytes_of name h)

name_text : (name : List ℕ) → is_name name ≡ true → is_text name ≡ true
name_text name h = all_so is_name_byte is_symbol byte_symbol name (bytes_of name h)

named : (name : List ℕ) → is_name name ≡ true → name_of name ≡ Some name
named name h = rw h refl

name_found : (text name : List ℕ) → name_of text ≡ Some name → (is_name name ≡ true) × (text ≡ name)
name_found text name h = by (is_name text) refl h
  where
    by : (b : Bool) → is_name text ≡ b → cond b (Some text) None ≡ Some name → (is_name name ≡ true) × (text ≡ name)
    by true e k = let same : text ≡ name = cc in (rw (← same) e, same)
    by false e k = absurd cc

-- ---- services

abbrev made : List ℕ → Option (List ℕ) → ServiceId
made name protocol = record { name = name; protocol = protocol }

not_both : (b : Bool) → not (b && true) ≡ true → b ≡ false
not_both true h = absurd cc
not_both false h = refl

and_none : (b : Bool) → not (b && false) ≡ true
and_none true = refl
and_none false = refl

parts_again : (name : List ℕ) (protocol : Option (List ℕ)) → is_service (made name protocol) ≡ true → service_of (service_text (made name protocol)) ≡ Some (made name protocol)
parts_again name None h =
    let outer = and_parts (is_name name && true) (not (is_shell name && false)) h in
    let right = (and_parts (is_name name) true outer.0).0 in
    rw (append-nil name, split_nowhere 47 name (no_slash name right), named name right) refl
parts_again name (Some protocol) h =
    let outer = and_parts (is_name name && is_name protocol) (not (is_shell name && true)) h in
    let names = and_parts (is_name name) (is_name protocol) outer.0 in
    let other = not_both (is_shell name) outer.1 in
    rw (split_first 47 name protocol (no_slash name names.0), other, named name names.0, named protocol names.1) refl

-- what is spelled so is read
pub again : (service : ServiceId) → is_service service ≡ true → service_of (service_text service) ≡ Some service
again service h = parts_again service.name service.protocol h

alone_found : (text : List ℕ) (service : ServiceId) (read : Option (List ℕ)) → name_of text ≡ read → option_map (λ (name : List ℕ). made name None) read ≡ Some service
    → (is_service service ≡ true) × (text ≡ service_text service)
alone_found text service None e h = absurd cc
alone_found text service (Some name) e h =
    let is : service ≡ made name None = cc in
    let known = name_found text name e in
    rw is (and_from (is_name name && true) (not (is_shell name && false)) (and_from (is_name name) true known.0 refl) (and_none (is_shell name)), known.1 ∙ sym (append-nil name))

both_found : (front back : List ℕ) (service : ServiceId) (first second : Option (List ℕ)) → is_shell front ≡ false → name_of front ≡ first → name_of back ≡ second
    → option_and_then (λ (name : List ℕ). option_map (λ (protocol : List ℕ). made name (Some protocol)) second) first ≡ Some service
    → (is_service service ≡ true) × (front ++ 47 ∷ back ≡ service_text service)
both_found front back service None second other e k h = absurd cc
both_found front back service (Some name) None other e k h = absurd cc
both_found front back service (Some name) (Some protocol) other e k h =
    let is : service ≡ made name (Some protocol) = cc in
    let one = name_found front name e in
    let two = name_found back protocol k in
    let no_shell : is_shell name ≡ false = ap is_shell (sym one.1) ∙ other in
    let right : is_service (made name (Some protocol)) ≡ true = and_from (is_name name && is_name protocol) (not (is_shell name && true)) (and_from (is_name name) (is_name protocol) one.0 two.0) (rw no_shell refl) in
    rw is (right, ap (λ (f : List ℕ). f ++ 47 ∷ back) one.1 ∙ ap (λ (b : List ℕ). name ++ 47 ∷ b) two.1)

split_found : (text : List ℕ) (service : ServiceId) (parts : Option (List ℕ × List ℕ)) → split_at_first 47 text ≡ parts → service_split text parts ≡ Some service
    → (is_service service ≡ true) × (text ≡ service_text service)
split_found text service None e h = alone_found text service (name_of text) refl h
split_found text service (Some parts) e h = by (is_shell parts.0) refl h
  where
    by : (b : Bool) → is_shell parts.0 ≡ b
        → cond b None (option_and_then (λ (name : List ℕ). option_map (λ (protocol : List ℕ). made name (Some protocol)) (name_of parts.1)) (name_of parts.0)) ≡ Some service
        → (is_service service ≡ true) × (text ≡ service_text service)
    by true shell k = absurd cc
    by false shell k =
        let known = both_found parts.0 parts.1 service (name_of parts.0) (name_of parts.1) shell refl refl k in
        (known.0, joined 47 text parts e ∙ known.1)

-- what is read is spelled so
pub found : (text : List ℕ) (service : ServiceId) → service_of text ≡ Some service → (is_service service ≡ true) × (text ≡ service_text service)
found text service h = split_found text service (split_at_first 47 text) refl h

-- ---- their texts

parts_all : (test : ℕ → Bool) → test 47 ≡ true → ((name : List ℕ) → is_name name ≡ true → list_all test name ≡ true)
    → (name : List ℕ) (protocol : Option (List ℕ)) → is_service (made name protocol) ≡ true → list_all test (service_text (made name protocol)) ≡ true
parts_all test slash each name None h =
    let outer = and_parts (is_name name && true) (not (is_shell name && false)) h in
    rw (append-nil name) (each name (and_parts (is_name name) true outer.0).0)
parts_all test slash each name (Some protocol) h =
    let outer = and_parts (is_name name && is_name protocol) (not (is_shell name && true)) h in
    let names = and_parts (is_name name) (is_name protocol) outer.0 in
    list_all-append test name (47 ∷ protocol)
    ∙ and_from (list_all test name) (list_all test (47 ∷ protocol)) (each name names.0) (and_from (test 47) (list_all test protocol) slash (each protocol names.1))

pub service_symbols : (service : ServiceId) → is_service service ≡ true → is_text (service_text service) ≡ true
service_symbols service h = parts_all is_symbol refl name_text service.name service.protocol h

service_blanks : (service : ServiceId) → is_service service ≡ true → lacks 32 (service_text service) ≡ true
service_blanks service h = parts_all (λ byte. not (eqb byte 32)) refl no_blank service.name service.protocol h

-- a service is one field
pub service_field : (service : ServiceId) → is_service service ≡ true → split_at_first 32 (service_text service) ≡ None
service_field service h = split_nowhere 32 (service_text service) (service_blanks service h)

-- ---- what follows a service

pub attributed_again : (service : ServiceId) (attribute : Option (List ℕ)) → is_service service ≡ true → attributed_of (attributed_text service attribute) ≡ Some (service, attribute)
attributed_again service None h =
    rw (append-nil (service_text service), service_field service h, again service h) refl
attributed_again service (Some text) h =
    rw (split_first 32 (service_text service) text (service_blanks service h), again service h) refl

whole_found : (text : List ℕ) (read : ServiceId × Option (List ℕ)) (service : Option ServiceId) → service_of text ≡ service → option_map (λ (service : ServiceId). (service, None)) service ≡ Some read
    → (is_service read.0 ≡ true) × (text ≡ attributed_text read.0 read.1)
whole_found text read None e h = absurd cc
whole_found text read (Some service) e h =
    let is : read ≡ (service, None) = cc in
    let known = found text service e in
    rw is (known.0, known.1 ∙ sym (append-nil (service_text service)))

front_found : (front back : List ℕ) (read : ServiceId × Option (List ℕ)) (service : Option ServiceId) → service_of front ≡ service → option_map (λ (service : ServiceId). (service, Some back)) service ≡ Some read
    → (is_service read.0 ≡ true) × (front ++ 32 ∷ back ≡ attributed_text read.0 read.1)
front_found front back read None e h = absurd cc
front_found front back read (Some service) e h =
    let is : read ≡ (service, Some back) = cc in
    let known = found front service e in
    rw is (known.0, ap (λ (f : List ℕ). f ++ 32 ∷ back) known.1)

parted_found : (text : List ℕ) (read : ServiceId × Option (List ℕ)) (parts : Option (List ℕ × List ℕ)) → split_at_first 32 text ≡ parts → attributed_split text parts ≡ Some read
    → (is_service read.0 ≡ true) × (text ≡ attributed_text read.0 read.1)
parted_found text read None e h = whole_found text read (service_of text) refl h
parted_found text read (Some parts) e h =
    let known = front_found parts.0 parts.1 read (service_of parts.0) refl h in
    (known.0, joined 32 text parts e ∙ known.1)

pub attributed_found : (text : List ℕ) (read : ServiceId × Option (List ℕ)) → attributed_of text ≡ Some read → (is_service read.0 ≡ true) × (text ≡ attributed_text read.0 read.1)
attributed_found text read h = parted_found text read (split_at_first 32 text) refl h

-- ---- the lines that a policy may have

attribute_text : (text : List ℕ) → is_attribute text ≡ true → is_text text ≡ true
attribute_text text h = (and_parts (is_text text) (nat_le (length text) 255) (and_parts (is_text text && nat_le (length text) 255) (has_attribute_name text) h).0).0

-- what follows the word of such a line are symbols
pub line_symbols : (service : ServiceId) (says : Says) → is_service service ≡ true → may_say service says ≡ true → is_text (attributed_text service (attribute_in says)) ≡ true
line_symbols service (Allows None) right may = rw (append-nil (service_text service)) (service_symbols service right)
line_symbols service (Allows (Some text)) right may =
    let shown = attribute_text text (and_parts (is_attribute text) (not (is_shell service.name && is_level text)) may).0 in
    list_all-append is_symbol (service_text service) (32 ∷ text) ∙ and_from (is_text (service_text service)) (is_text (32 ∷ text)) (service_symbols service right) shown
line_symbols service Refuses right may = rw (append-nil (service_text service)) (service_symbols service right)
