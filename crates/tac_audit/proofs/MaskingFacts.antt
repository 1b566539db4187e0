-- Lines that differ only in their secret have the same text.
use Rattle.std.proofs.Common.{◌≡◌, ◌≢◌, inl, inr, ℕ, suc, ◌+◌, ◌-◌, ◌||◌, not, Bool, true, false, List, [], ◌∷◌, ◌++◌, length, map, Some, codes, nat_lt, append_assoc, refl, sym, ap, ◌∙◌, arith}
use Rattle.std.specs.List.{list_all, prefix_len}
use Rattle.std.specs.Prelude.{bytes_eq}
use Rattle.std.specs.Option.{option_map}
use Rattle.std.specs.Char.{to_ascii_lowercase}
use Rattle.std.specs.Str.{str_to_ascii_lowercase, str_eq_ignore_ascii_case}
use Rattle.std.proofs.Math.Seq.{take-append_seam, drop-append-add}
use Rattle.std.proofs.lemmas.Bool.{and_parts, lt-ltb}
use Rattle.std.proofs.lemmas.Bool.Decides.{nat_tests}
use Rattle.std.proofs.lemmas.List.{length-append, take_at}
use Rattle.std.proofs.lemmas.Slice.Eq.{bytes_eq-Decides}
use Rattle.tac_audit.specs.Masking.{is_blank, without_blanks, split_word, sets_secret, secret_of, masked, IsWord, AreBlank, OpensSecret, IsSetting, is_setting, masked_answer}

is_visible : ℕ → Bool
is_visible byte = not (is_blank byte)

visible : (byte : ℕ) → not (is_blank byte) ≡ true → is_blank byte ≡ false
visible byte h = grind (arith, nat_tests)

-- blanks at the begin count for nothing
past_blanks : (before rest : List ℕ) → list_all is_blank before ≡ true → without_blanks (before ++ rest) ≡ without_blanks rest
past_blanks [] rest h = refl
past_blanks (byte ∷ before) rest h =
    let parts = and_parts (is_blank byte) (list_all is_blank before) h in
    rw (parts.0) (past_blanks before rest parts.1)

-- a word stays
at_word : (word rest : List ℕ) → IsWord word → word ≢ [] → without_blanks (word ++ rest) ≡ word ++ rest
at_word [] rest h some = absurd (some refl)
at_word (byte ∷ word) rest h some =
    let parts = and_parts (not (is_blank byte)) (list_all (λ byte. not (is_blank byte)) word) h in
    rw (visible byte parts.0) refl

word_length : (word : List ℕ) (blank : ℕ) (rest : List ℕ) → IsWord word → is_blank blank ≡ true
    → prefix_len (λ byte. not (is_blank byte)) (word ++ blank ∷ rest) ≡ length word
word_length [] blank rest h b = rw b refl
word_length (byte ∷ word) blank rest h b =
    let parts = and_parts (not (is_blank byte)) (list_all (λ byte. not (is_blank byte)) word) h in
    rw (parts.0, word_length word blank rest parts.1 b) (omega arith)

-- a word ends at the blank after it
word_ends : (word : List ℕ) (blank : ℕ) (rest : List ℕ) → IsWord word → is_blank blank ≡ true
    → split_word (word ++ blank ∷ rest) ≡ Some (word, rest)
unfolding split_word
word_ends word blank rest h b =
    let len = word_length word blank rest h b in
    let long : length (word ++ blank ∷ rest) ≡ length word + suc (length rest) = length-append word (blank ∷ rest) in
    let within : nat_lt (length word) (length (word ++ blank ∷ rest)) ≡ true = lt-ltb _ _ (omega (arith, long)) in
    rw (len, within, take-append_seam word (blank ∷ rest), drop-append-add word (blank ∷ rest) 1) refl

-- ---- the first word

low_visible : (byte : ℕ) → not (is_blank (to_ascii_lowercase byte)) ≡ true → not (is_blank byte) ≡ true
low_visible byte h = grind (arith, nat_tests)

low_word : (word : List ℕ) → IsWord (map to_ascii_lowercase word) → IsWord word
low_word [] h = refl
low_word (byte ∷ word) h =
    let parts = and_parts (not (is_blank (to_ascii_lowercase byte))) (list_all (λ byte. not (is_blank byte)) (map to_ascii_lowercase word)) h in
    rw (low_visible byte parts.0) (low_word word parts.1)

named_word : (word name : List ℕ) → IsWord (str_to_ascii_lowercase name) → str_eq_ignore_ascii_case word name ≡ true → IsWord word
named_word word name h e =
    low_word word (rw ((bytes_eq-Decides (str_to_ascii_lowercase word) (str_to_ascii_lowercase name)).0 e) h)

named_some : (word name : List ℕ) → name ≢ [] → str_eq_ignore_ascii_case word name ≡ true → word ≢ []
named_some [] [] some e = some
named_some [] (byte ∷ name) some e = absurd cc
named_some (byte ∷ word) name some e = λ is. absurd cc

either : {A : Type 0} (x y : Bool) → (x || y) ≡ true → (x ≡ true → A) → (y ≡ true → A) → A
either true y h first second = first refl
either false y h first second = second h

-- the words of settings
pub setting_is : (word : List ℕ) → is_setting word ≡ true → IsSetting word
setting_is word h =
    either (bytes_eq word (codes "login") || bytes_eq word (codes "enable") || bytes_eq word (codes "login-hash")) (bytes_eq word (codes "enable-hash")) h
    (λ h. either (bytes_eq word (codes "login") || bytes_eq word (codes "enable")) (bytes_eq word (codes "login-hash")) h
    (λ h. either (bytes_eq word (codes "login")) (bytes_eq word (codes "enable")) h
    (λ e. inl (inl ((bytes_eq-Decides word (codes "login")).0 e)))
    (λ e. inl (inr ((bytes_eq-Decides word (codes "enable")).0 e))))
    (λ e. inr (inl ((bytes_eq-Decides word (codes "login-hash")).0 e))))
    (λ e. inr (inr ((bytes_eq-Decides word (codes "enable-hash")).0 e)))

-- the word of a line, but for capitals
abbrev spells : List ℕ → List ℕ → Bool
spells verb name = str_eq_ignore_ascii_case verb name

verb_word : (verb : List ℕ) → sets_secret verb ≡ true → IsWord verb × (verb ≢ [])
verb_word verb h =
    either (spells verb (codes "login") || spells verb (codes "enable") || spells verb (codes "login-hash")) (spells verb (codes "enable-hash")) h
    (λ h. either (spells verb (codes "login") || spells verb (codes "enable")) (spells verb (codes "login-hash")) h
    (λ h. either (spells verb (codes "login")) (spells verb (codes "enable")) h
    (λ e. (named_word verb (codes "login") refl e, named_some verb (codes "login") (λ is. absurd cc) e))
    (λ e. (named_word verb (codes "enable") refl e, named_some verb (codes "enable") (λ is. absurd cc) e)))
    (λ e. (named_word verb (codes "login-hash") refl e, named_some verb (codes "login-hash") (λ is. absurd cc) e)))
    (λ e. (named_word verb (codes "enable-hash") refl e, named_some verb (codes "enable-hash") (λ is. absurd cc) e))

-- ---- a line

-- blanks, and a first word that sets a secret
after_verb : (before verb between rest : List ℕ) → AreBlank before → IsWord verb → verb ≢ [] → sets_secret verb ≡ true → AreBlank between → between ≢ []
    → secret_of (before ++ (verb ++ (between ++ rest))) ≡ option_map (λ parts. parts.1) (split_word (without_blanks rest))
unfolding secret_of
after_verb before verb [] rest b w some sets g more = absurd (more refl)
after_verb before verb (blank ∷ between) rest b w some sets g more =
    let parts = and_parts (is_blank blank) (list_all is_blank between) g in
    let front = past_blanks before (verb ++ (blank ∷ (between ++ rest))) b ∙ at_word verb (blank ∷ (between ++ rest)) w some in
    rw (front, word_ends verb blank (between ++ rest) w parts.0, sets, past_blanks between rest parts.1) refl

after_name : (name : List ℕ) (blank : ℕ) (secret : List ℕ) → IsWord name → name ≢ [] → is_blank blank ≡ true
    → option_map (λ (parts : List ℕ × List ℕ). parts.1) (split_word (without_blanks (name ++ blank ∷ secret))) ≡ Some secret
after_name name blank secret w some b =
    rw (at_word name (blank ∷ secret) w some, word_ends name blank secret w b) refl

-- what follows a head that opens a secret is the secret
pub secret_found : (head secret : List ℕ) → OpensSecret head → secret_of (head ++ secret) ≡ Some secret
secret_found head secret opens =
    let verb = verb_word opens.verb opens.verb_sets in
    let end = opens.blank ∷ secret in
    let rest = opens.name ++ end in
    let spelled : head ++ secret ≡ opens.before ++ (opens.verb ++ (opens.between ++ rest)) =
    ap (λ (text : List ℕ). text ++ secret) opens.spelled
    ∙ append_assoc (opens.before ++ opens.verb ++ opens.between ++ opens.name) (opens.blank ∷ []) secret
    ∙ append_assoc (opens.before ++ opens.verb ++ opens.between) opens.name end
    ∙ append_assoc (opens.before ++ opens.verb) opens.between rest
    ∙ append_assoc opens.before opens.verb (opens.between ++ rest) in
    rw spelled
    (after_verb opens.before opens.verb opens.between rest opens.before_blank verb.0 verb.1 opens.verb_sets opens.between_blank opens.between_some
    ∙ after_name opens.name opens.blank secret opens.name_word opens.name_some opens.blank_is)

-- so the line shows its head, and a star
pub shows_head : (head secret : List ℕ) → OpensSecret head → masked (head ++ secret) ≡ head ++ codes "*"
unfolding masked
shows_head head secret opens =
    let long = length-append head secret in
    let len : length head ≡ length (head ++ secret) - length secret = omega (arith, long) in
    rw (secret_found head secret opens, take_at head secret (length (head ++ secret) - length secret) len) refl

pub hides : (head secret other : List ℕ) → OpensSecret head → masked (head ++ secret) ≡ masked (head ++ other)
hides head secret other opens = shows_head head secret opens ∙ sym (shows_head head other opens)

-- ---- a line of an answer

shows_login : (secret : List ℕ) → masked_answer (codes "login" ++ codes " " ++ secret) ≡ codes "login *"
unfolding masked_answer
shows_login secret = refl

shows_enable : (secret : List ℕ) → masked_answer (codes "enable" ++ codes " " ++ secret) ≡ codes "enable *"
unfolding masked_answer
shows_enable secret = refl

shows_login_hash : (secret : List ℕ) → masked_answer (codes "login-hash" ++ codes " " ++ secret) ≡ codes "login-hash *"
unfolding masked_answer
shows_login_hash secret = refl

shows_enable_hash : (secret : List ℕ) → masked_answer (codes "enable-hash" ++ codes " " ++ secret) ≡ codes "enable-hash *"
unfolding masked_answer
shows_enable_hash secret = refl

pub hides_setting : (word secret other : List ℕ) → IsSetting word → masked_answer (word ++ codes " " ++ secret) ≡ masked_answer (word ++ codes " " ++ other)
hides_setting word secret other (inl (inl is)) = rw is (shows_login secret ∙ sym (shows_login other))
hides_setting word secret other (inl (inr is)) = rw is (shows_enable secret ∙ sym (shows_enable other))
hides_setting word secret other (inr (inl is)) = rw is (shows_login_hash secret ∙ sym (shows_login_hash other))
hides_setting word secret other (inr (inr is)) = rw is (shows_enable_hash secret ∙ sym (shows_enable_hash other))
