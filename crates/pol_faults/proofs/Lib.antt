mod ChainFacts
mod PlainFacts
mod SizeFacts
