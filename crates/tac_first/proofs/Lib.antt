mod FitFacts
mod SoFarFacts
