-- The six words of a line that tells a caller, with one space between each two.
use Rattle.std.specs.Prelude.{◌≡◌, ℕ, Bool, ◌==◌, ◌&&◌, nat_lt, List, length, slice_index, codes}
use Rattle.std.specs.Prelude.{Option}
use Rattle.std.specs.Option.{option_map, option_and_then}
use Rattle.std.specs.Net.Grammar.{IsIpText}
use Rattle.std.specs.declared.net.ip_addr.IpAddr.{IpAddr}
use Rattle.std.specs.declared.net.socket_addr.SocketAddr.{SocketAddr}
use Rattle.basics.specs.Lines.{split_at_first}
use Rattle.tac_proxy.specs.Line.{socket_of, family_word, IsPort}
use Rattle.tac_proxy.specs.declared.line.Words.{Words}

pub record SixWords : Type 0 where
  pub protocol : List ℕ
  pub family : List ℕ
  pub source : List ℕ
  pub target : List ℕ
  pub source_port : List ℕ
  pub target_port : List ℕ

-- the words of a line, where it has so many; the last may have spaces
abbrev pub six_words : List ℕ → Option SixWords
six_words line =
    option_and_then
    (λ a. option_and_then
    (λ b. option_and_then
    (λ c. option_and_then
    (λ d. option_map
    (λ e. record {
      protocol = a.0;
      family = b.0;
      source = c.0;
      target = d.0;
      source_port = e.0;
      target_port = e.1;
    }) (split_at_first 32 d.1)) (split_at_first 32 c.1)) (split_at_first 32 b.1))
    (split_at_first 32 a.1)) (split_at_first 32 line)

abbrev pub seen : Words → SixWords
seen words = record {
  protocol = words.protocol.now;
  family = words.family.now;
  source = words.source.now;
  target = words.target.now;
  source_port = words.source_port.now;
  target_port = words.target_port.now;
}

-- a zero stands in front of other digits
abbrev pub is_padded : List ℕ → Bool
is_padded digits = nat_lt 1 (length digits) && slice_index digits 0 == 48

-- the words tell a caller
pub record WordsTell (words : SixWords) (caller : SocketAddr) : Type 0 where
  pub protocol : words.protocol ≡ codes "PROXY"
  pub source : IpAddr
  pub target : IpAddr
  pub source_port : ℕ
  pub target_port : ℕ
  pub source_address : IsIpText words.source source
  pub target_address : IsIpText words.target target
  pub source_family : words.family ≡ family_word source
  pub target_family : words.family ≡ family_word target
  pub source_digits : IsPort words.source_port source_port
  pub target_digits : IsPort words.target_port target_port
  pub told : caller ≡ socket_of source source_port
