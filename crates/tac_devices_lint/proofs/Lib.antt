mod PlaceFacts
