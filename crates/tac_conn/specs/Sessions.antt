-- The sessions that are kept of a connection, each once.
use Rattle.std.specs.Prelude.{◌≡◌, ℕ, List, [], ◌∷◌, ◌++◌, ◌==◌, Option, Some, None, if◌then◌else◌}
use Rattle.std.specs.List.{find, position}
use Rattle.tac_conn.specs.declared.session.Session.{Session}

abbrev pub session_in : List Session → ℕ → Option Session
session_in sessions id = find (λ session. session.id == id) sessions

-- where the session of this id stands
abbrev pub place_in : List Session → ℕ → Option ℕ
place_in sessions id = position (λ session. session.id == id) sessions

-- the sessions without the first of this id
abbrev pub without : ℕ → List Session → List Session
without id [] = []
without id (session ∷ sessions) =
    if session.id == id then sessions else session ∷ without id sessions

-- the sessions with this one in place of the one of its id
abbrev pub with_session : Session → List Session → List Session
with_session session sessions = without session.id sessions ++ session ∷ []

-- the sessions after a packet of this session: it is kept if it is open from then on
abbrev pub settled : ℕ → Option Session → List Session → List Session
settled id None sessions = without id sessions
settled id (Some session) sessions = with_session session sessions

-- each session once
abbrev pub HasEachOnce : List Session → Type 0
HasEachOnce [] = Unit {0}
HasEachOnce (session ∷ sessions) = (session_in sessions session.id ≡ None) × HasEachOnce sessions
