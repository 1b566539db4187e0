mod HearingFacts
