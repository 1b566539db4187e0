mod DiskFacts
mod TailFacts
mod DeviceFacts
