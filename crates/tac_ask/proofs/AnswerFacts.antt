-- What is printed of an answer is symbols, but for its end.
use Rattle.std.proofs.Common.{◌≡◌, ℕ, ◌/◌, ◌%◌, ◌<◌, ◌&&◌, Bool, true, false, not, if◌then◌else◌, eqb, List, [], ◌∷◌, ◌++◌, nat_lt, length, codes, refl, arith, Result, Ok, Err}
use Rattle.std.specs.Prelude.{IfOk}
use Rattle.std.specs.Global.{Vec}
use Rattle.std.specs.List.{list_all, list_any, flat_map}
use Rattle.std.specs.Fmt.{digit_glyph}
use Rattle.std.proofs.lemmas.Bool.Decides.{nat_tests}
use Rattle.std.proofs.lemmas.Bool.{and_parts, and_from}
use Rattle.basics.specs.Symbol.{is_symbol, is_text}
use Rattle.tac_ask.specs.declared.reply.ReplyFields.{ReplyFields}
use Rattle.tac_ask.specs.Answer.{is_plain, shown_byte, escaped, shown_text, is_blank, quoted, shown_argument, message_mark, marked_text, answer_text, answer_line, are_bytes, HasBytes, IsLineOfSymbols}

text-append : (xs ys : List ℕ) → is_text xs ≡ true → is_text ys ≡ true → is_text (xs ++ ys) ≡ true
text-append [] ys h k = k
text-append (x ∷ xs) ys h k =
    let parts = and_parts (is_symbol x) (is_text xs) h in
    and_from (is_symbol x) (is_text (xs ++ ys)) parts.0 (text-append xs ys parts.1 k)

glyph_symbol : (d : ℕ) → d < 16 → is_symbol (digit_glyph false d) ≡ true
glyph_symbol d small = grind (arith, nat_tests)

plain_symbol : (also byte : ℕ) → is_plain also byte ≡ true → is_symbol byte ≡ true
plain_symbol also byte h =
    let parts = and_parts (is_symbol byte && not (eqb byte 92)) (not (eqb byte also)) h in
    (and_parts (is_symbol byte) (not (eqb byte 92)) parts.0).0

shown_symbols : (also byte : ℕ) → byte < 256 → is_text (shown_byte also byte) ≡ true
shown_symbols also byte small = shown (is_plain also byte) refl
  where
    shown : (b : Bool) → is_plain also byte ≡ b → is_text (if b then byte ∷ [] else 92 ∷ 120 ∷ digit_glyph false (byte / 16) ∷ digit_glyph false (byte % 16) ∷ []) ≡ true
    shown true plain = and_from (is_symbol byte) true (plain_symbol also byte plain) refl
    shown false plain =
        and_from (is_symbol (digit_glyph false (byte / 16))) _ (glyph_symbol (byte / 16) (omega arith))
        (and_from (is_symbol (digit_glyph false (byte % 16))) true (glyph_symbol (byte % 16) (omega arith)) refl)

small_byte : (byte : ℕ) → nat_lt byte 256 ≡ true → byte < 256
small_byte byte h = grind (arith, nat_tests)

escaped_symbols : (also : ℕ) (text : List ℕ) → are_bytes text ≡ true → is_text (escaped also text) ≡ true
escaped_symbols also [] h = refl
escaped_symbols also (byte ∷ text) h =
    let parts = and_parts (nat_lt byte 256) (are_bytes text) h in
    text-append (shown_byte also byte) (escaped also text) (shown_symbols also byte (small_byte byte parts.0)) (escaped_symbols also text parts.1)

quoted_symbols : (b : Bool) (text : List ℕ) → is_text text ≡ true → is_text (quoted b text) ≡ true
quoted_symbols true text h = text-append text (39 ∷ []) h refl
quoted_symbols false text h = h

argument_symbols : (argument : List ℕ) → are_bytes argument ≡ true → is_text (shown_argument argument) ≡ true
argument_symbols argument h = quoted_symbols (list_any is_blank argument) (escaped 39 argument) (escaped_symbols 39 argument h)

arguments_symbols : (args : List (List ℕ)) → list_all are_bytes args ≡ true → is_text (flat_map shown_argument args) ≡ true
arguments_symbols [] h = refl
arguments_symbols (argument ∷ args) h =
    let parts = and_parts (are_bytes argument) (list_all are_bytes args) h in
    text-append (shown_argument argument) (flat_map shown_argument args) (argument_symbols argument parts.0) (arguments_symbols args parts.1)

mark_symbols : (args : List (List ℕ)) → is_text (message_mark args) ≡ true
mark_symbols args = either (eqb (length args) 0)
  where
    either : (b : Bool) → is_text (if b then codes " " else codes "; message ") ≡ true
    either true = refl
    either false = refl

marked_symbols : (mark text : List ℕ) → is_text mark ≡ true → are_bytes text ≡ true → is_text (marked_text mark text) ≡ true
marked_symbols mark text h k = either (eqb (length text) 0)
  where
    either : (b : Bool) → is_text (if b then [] else mark ++ shown_text text) ≡ true
    either true = refl
    either false = text-append mark (shown_text text) h (escaped_symbols 92 text k)

text_symbols : (name : List ℕ) (reply : ReplyFields) → is_text name ≡ true → HasBytes reply → is_text (answer_text name reply) ≡ true
text_symbols name reply h bytes =
    let data_mark = codes "; data " in
    let args = flat_map shown_argument reply.args in
    let message = marked_text (message_mark reply.args) reply.server_msg in
    text-append (name ++ args ++ message) (marked_text data_mark reply.extra)
    (text-append (name ++ args) message
    (text-append name args h (arguments_symbols reply.args bytes.args))
    (marked_symbols (message_mark reply.args) reply.server_msg (mark_symbols reply.args) bytes.server_msg))
    (marked_symbols data_mark reply.extra refl bytes.extra)

pub line_symbols : (name line : List ℕ) (reply : ReplyFields) → line ≡ answer_line name reply → is_text name ≡ true → HasBytes reply → IsLineOfSymbols line
line_symbols name line reply e h bytes = record { text = answer_text name reply; ends = e; symbols = text_symbols name reply h bytes }

pub told_symbols : {E : Type 0} → (name : List ℕ) (reply : ReplyFields) (r : Result (Vec ℕ) E) → IfOk r (λ line. line.items ≡ answer_line name reply) → is_text name ≡ true → HasBytes reply → IfOk r (λ line. IsLineOfSymbols line.items)
told_symbols name reply (Ok line) e h bytes = line_symbols name line.items reply e h bytes
told_symbols name reply (Err fault) e h bytes = tt
