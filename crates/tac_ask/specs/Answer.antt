-- How an answer is printed: a line of symbols, whatever a server sends.
use Rattle.std.specs.Prelude.{ℕ, ◌/◌, ◌%◌, List, [], ◌∷◌, ◌++◌, Bool, true, false, not, ◌&&◌}
use Rattle.std.specs.Prelude.{◌==◌, ◌≡◌, length, nat_lt, codes, if◌then◌else◌}
use Rattle.std.specs.List.{flat_map, list_any, list_all}
use Rattle.std.specs.Fmt.{digit_glyph}
use Rattle.basics.specs.Symbol.{is_symbol, is_text}
use Rattle.tac_ask.specs.declared.reply.ReplyFields.{ReplyFields}

-- ---- bytes: a symbol represents itself, but the backslash and one more byte don't; any other is
-- `\x` and two hexadecimal digits

abbrev pub is_plain : ℕ → ℕ → Bool
is_plain also byte = is_symbol byte && not (byte == 92) && not (byte == also)

abbrev pub shown_byte : ℕ → ℕ → List ℕ
shown_byte also byte =
    if is_plain also byte then byte ∷ []
    else 92 ∷ 120 ∷ digit_glyph false (byte / 16) ∷ digit_glyph false (byte % 16) ∷ []

abbrev pub escaped : ℕ → List ℕ → List ℕ
escaped also text = flat_map (shown_byte also) text

-- ---- texts

-- a text of the server: only the backslash has another form
abbrev pub shown_text : List ℕ → List ℕ
shown_text text = escaped 92 text

abbrev pub is_blank : ℕ → Bool
is_blank byte = byte == 32

-- an argument: one with a blank in it stands between apostrophes, so that where each ends is told
abbrev pub quoted : Bool → List ℕ → List ℕ
quoted true text = (39 ∷ []) ++ text ++ (39 ∷ [])
quoted false text = text

abbrev pub shown_argument : List ℕ → List ℕ
shown_argument argument = (32 ∷ []) ++ quoted (list_any is_blank argument) (escaped 39 argument)

-- ---- the line: the status's name, the arguments, the message, the data

-- what comes before the message: where there are arguments it is named
abbrev pub message_mark : List (List ℕ) → List ℕ
message_mark args = if length args == 0 then codes " " else codes "; message "

-- a text, where it isn't empty, with what comes before it
abbrev pub marked_text : List ℕ → List ℕ → List ℕ
marked_text mark text = if length text == 0 then [] else mark ++ shown_text text

abbrev pub answer_text : List ℕ → ReplyFields → List ℕ
answer_text name reply =
    name ++ flat_map shown_argument reply.args
    ++ marked_text (message_mark reply.args) reply.server_msg
    ++ marked_text (codes "; data ") reply.extra

abbrev pub answer_line : List ℕ → ReplyFields → List ℕ
answer_line name reply = answer_text name reply ++ (10 ∷ [])

-- ---- no control character comes to a terminal

-- numbers below 256, which the bytes of a reply are
abbrev pub are_bytes : List ℕ → Bool
are_bytes text = list_all (λ byte. nat_lt byte 256) text

pub record HasBytes (reply : ReplyFields) : Type 0 where
  pub args : list_all are_bytes reply.args ≡ true
  pub server_msg : are_bytes reply.server_msg ≡ true
  pub extra : are_bytes reply.extra ≡ true

-- symbols alone, and the LF after them
pub record IsLineOfSymbols (line : List ℕ) : Type 0 where
  pub text : List ℕ
  pub ends : line ≡ text ++ (10 ∷ [])
  pub symbols : is_text text ≡ true
